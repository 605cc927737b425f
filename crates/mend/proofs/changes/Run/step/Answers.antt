-- `mend::changes::Run::step` meets its contract.
-- Assumes nothing.
use mathlib.Core.Path.{refl, ◌∙◌}
use native.Mathlib.Omega.{arith}
use borrow.Author.Tests.{lt-ltb, le-ltb}
use Rattle.mend.proofs.Laws.Steps.{step-low, step-high, note-count}
use Rattle.mend.proofs.changes.Run.step.Goals as goal

pub returns-then-b-lt128 : goal.returns-then-b-lt128
returns-then-b-lt128 c =
    let called = c.put_change-next in
    let t = lt-ltb _ 128 c.if-b-lt128.true in
    (rw t refl, called.ensures ∙ step-low _ _ _ _ t, note-count _ _ _ _ _ _ _ called.ensures)

pub returns : goal.returns
returns c =
    let t = le-ltb _ 128 c.if-b-lt128.false in
    (rw t refl, step-high _ _ _ _ t, omega arith)
