-- `real::coded` meets its contract: the parts of what was read are those of the definition.
-- Assumes nothing.
use Prim.Native.Nat.{◌-◌}
use mathlib.Core.Path.{refl}
use native.Mathlib.Nat.{one-le-pow, zero-lt-suc}
use borrow.Author.Tests.{lt-ltb, le-ltb, ne_eqb}
use Rattle.number.specs.Word.{none}
use Rattle.real.specs.Real.{coded_of}
use Rattle.real.proofs.coded.Goals.{then-code-eq-NONE-via-then-code-eq-NONE, then-code-eq-NONE-via-else-code-eq-NONE+then-this-gt3}
use Rattle.real.proofs.coded.Goals as goal

pub returns-then-code-eq-NONE : goal.returns-then-code-eq-NONE
unfolding coded_of
returns-then-code-eq-NONE g c =
    elim c.then-code-eq-NONE.branch [
      | then-code-eq-NONE-via-then-code-eq-NONE w ↦ rw w.if-code-eq-NONE.true refl
      | then-code-eq-NONE-via-else-code-eq-NONE+then-this-gt3 w ↦ rw (ne_eqb c.args.code none w.if-code-eq-NONE.false, lt-ltb 3 g.row.PLACES w.if-this-gt3.true) refl
    ]

pub nonzero_div-behind-2 : goal.nonzero_div-behind-2
nonzero_div-behind-2 g c = rw c.pow-2.ensures (one-le-pow (3 - g.row.PLACES) 10 (zero-lt-suc 9))

pub returns : goal.returns
unfolding coded_of
returns g c =
    rw (ne_eqb c.args.code none c.if-code-eq-NONE.false, le-ltb 3 g.row.PLACES c.if-this-gt3.false, c.real_from.ensures, c.pow.ensures, c.pow-2.ensures) refl
