-- `kind::kind_of` meets its contract: an atom is told by the numbers of its name, and any other kind as before.
-- Assumes nothing.
use mathlib.Core.Path.{sym, ◌∙◌}
use native.Mathlib.Omega.{arith}
use Rattle.kind.proofs.Laws.Front.{atom-front, hetatm-front}
use Rattle.kind.proofs.kind_of.Goals as goal

pub returns-then-begins : goal.returns-then-begins
returns-then-begins c =
    let a = c.args in
    atom-front a.line.now c.shared_slice_known-1.given (omega arith) a.atoms a.mode (sym c.begins.ensures ∙ c.if-begins.true)

pub returns-then-begins-2 : goal.returns-then-begins-2
returns-then-begins-2 c =
    let a = c.args in
    hetatm-front a.line.now c.shared_slice_known-1.given (omega arith) a.atoms a.mode (sym c.begins-2.ensures ∙ c.if-begins-2.true)
