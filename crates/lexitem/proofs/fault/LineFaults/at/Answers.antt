-- `lexitem::fault::LineFaults::at` meets its contract: the test is that of `told_at_of`.
-- Assumes nothing.
use mathlib.Core.Path.{refl}
use native.Mathlib.Omega.{arith}
use borrow.Author.Tests.{lt-ltb, le-ltb}
use Rattle.lexitem.proofs.fault.LineFaults.at.Goals as goal

pub returns-then-n-self : goal.returns-then-n-self
returns-then-n-self c =
    let a = c.args in
    rw (lt-ltb a.n a.self.count (omega arith), c.picked.ensures) refl

pub returns : goal.returns
returns c =
    let a = c.args in
    rw (le-ltb a.n a.self.count (omega arith), c.new.ensures) refl
