-- `lexer::bound::test_remark` meets its contract: the three tests are those of the row, in another order.
-- Assumes nothing.
use Prim.Native.Nat.{◌≤◌, ◌<◌}
use mathlib.Core.Path.{refl, sym}
use native.Mathlib.Omega.{arith}
use borrow.Author.Tests.{lt-ltb, le-ltb, le-leb, lt-leb}
use lib.ListN.{length}
use lib.Dec.{leb, ltb}
use Rattle.lexer.specs.Steps.{remark_test}
use Rattle.number.specs.Trim.{kept}
use Rattle.number.proofs.Laws.Trim.{kept-le}
use Rattle.lexer.proofs.Laws.Tests.{no_third}
use Rattle.lexer.proofs.bound.test_remark.Goals as goal
use Rattle.lexer.proofs.bound.test_remark.Goals.{then-loose-via-then-loose, then-loose-via-else-loose+then-n, then-loose-via-else-loose+else-n+then-kept_length-lt-LIMIT}

pub returns-then-loose : goal.returns-then-loose
unfolding remark_test
returns-then-loose c =
    let l = c.args.line.now in
    elim c.then-loose.branch [
      | then-loose-via-then-loose w ↦ rw (w.if-loose.true, no_third (ltb 11 (length l)) (leb 80 (kept l))) refl
      | then-loose-via-else-loose+then-n w ↦ rw (le-ltb 11 (length l) w.if-n.true) refl
      | then-loose-via-else-loose+else-n+then-kept_length-lt-LIMIT w ↦
          let k : kept l < 80 = rw (sym w.kept_length.ensures) w.if-kept_length-lt-LIMIT.true in
          rw (lt-ltb 11 (length l) w.if-n.false, lt-leb 80 (kept l) k) refl
    ]

pub overflow_sub-n : goal.overflow_sub-n
overflow_sub-n c =
    let e = c.kept_length.ensures in
    omega (arith, kept-le c.args.line.now)

pub returns : goal.returns
unfolding remark_test
returns c =
    let l = c.args.line.now in
    let k : 80 ≤ kept l = rw (sym c.kept_length.ensures) c.if-kept_length-lt-LIMIT.false in
    rw (c.new.ensures, lt-ltb 11 (length l) c.if-n.false, le-leb 80 (kept l) k, c.if-loose.false) refl
