-- `mend::changes::note_changes` meets its contract: the runs, and the padding behind them.
-- Assumes nothing.
use native.Mathlib.Omega.{arith}
use Rattle.mend.proofs.Laws.Mended.{pad_within}
use Rattle.mend.proofs.Laws.Steps.{noted-all, runs-most}
use Rattle.mend.proofs.changes.note_changes.Goals as goal

pub overflow_add-line : goal.overflow_add-line
overflow_add-line c = omega (arith, pad_within c.args.line.now c.requires.1, c.requires.0)

pub put_change-requires : goal.put_change-requires
put_change-requires c =
    let within = pad_within c.args.line.now c.requires.1 in (
      runs-most _ _ _ _ c.requires.1 c.note_runs-count.ensures,
      omega arith,
      omega (arith, c.requires.0),
      omega arith,
    )

pub returns : goal.returns
returns c = noted-all _ _ _ _ _ _ _ c.requires.0 c.note_runs-count.ensures c.put_change.ensures
