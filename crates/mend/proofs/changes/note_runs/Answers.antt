-- `mend::changes::note_runs` meets its contract. The loop's invariant: with the runs of the rest, the notes are as those of the whole line.
-- Assumes nothing.
use mathlib.Core.Path.{◌∙◌}
use native.Mathlib.Omega.{arith}
use lib.ListN.{get_or}
use lib.Dec.{ltb}
use borrow.Author.Rules.{rules}
use Rattle.mend.proofs.Laws.Steps.{run_next, run_done, run_le}
use Rattle.mend.proofs.changes.note_runs.Goals as goal

pub loop-i-preserved : goal.loop-i-preserved
loop-i-preserved c =
    let called = c.step-run in
    let l = c.loop-i in
    let t = c.args.line.now in
    let e = called.ensures in (
      search rules,
      omega (arith, e.2, l.invariant.1),
      run_le (ltb (get_or t l.i 0) 128) _ _ l.i e.0 l.invariant.2,
      run_next _ _ _ _ l.i _ _ l.invariant.3 c.loop-i-test.true e.0 e.1,
    )

pub returns : goal.returns
returns c = c.put_change.ensures ∙ run_done _ _ _ _ _ c.loop-i.invariant.3 (omega (arith, c.loop-i-test.false))
