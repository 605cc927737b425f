-- Fields whose columns were read as a word are what they are by any reading. The steps are those of a caller: the columns' part, its word,
-- what was read of it, and the field.
--     eight_fine, six-fine     a decimal of eight columns, and of six
--     four-fine, five_fine     a signed number of four columns, and an unsigned one of five
--     or-is                    what is read by another way where one says nothing
-- Assumes nothing.
use Prim.Native.Nat.{ℕ, ◌+◌, ◌*◌, ◌/◌, ◌^◌}
use mathlib.Core.Path.{◌≡◌, refl, sym, ◌∙◌}
use mathlib.Core.Bool.{Bool, true, false, cond}
use mathlib.Core.List.{List}
use native.Mathlib.Omega.{arith}
use borrow.Author.Tests.{leb-false, ne_eqb}
use Rattle.std.specs.Prelude.{Option, Some, None, MatchOption}
use Rattle.std.specs.Option.{option_or}
use lib.Dec.{eqb}
use Rattle.number.specs.Whole.{with_sign}
use Rattle.number.specs.Word.{none, code_of, minus_in, front_in, behind_in, eight_of, six_of, four_of, five_of}
use Rattle.number.proofs.Laws.Fixed.{four-said, five_said}
use Rattle.real.specs.Real.{SaysReal, coded_of}
use Rattle.real.specs.declared.Real.{Real}
use Rattle.real.proofs.Laws.Real.{eight_real, six-real}
use Rattle.real.proofs.Laws.WideReal.{off-is}
use Rattle.line.specs.Columns.{part_of}
use Rattle.line.specs.declared.columns.Columns.{Columns}
use Rattle.field.specs.Number.{zero_real, signed_four, unsigned_five, fine_real, fine_signed, fine_unsigned}
use Rattle.field.proofs.Laws.Fine.{real-said, signed-said, unsigned-said}

module _ (l : List ℕ) (at : Columns) where
  -- ---- reals
  says-fine : (r : Option Real) → SaysReal (part_of l at) r → option_or r (fine_real false l at) ≡ fine_real false l at
  says-fine (Some r) e = sym (off-is (part_of l at) ∙ e) ∙ real-said false l at zero_real
  says-fine None e = refl

  module _ {t : List ℕ} {w c : ℕ} (part : t ≡ part_of l at) (code : c ≡ code_of w) where
    pub eight_fine : w ≡ eight_of t → option_or (coded_of 3 c) (fine_real false l at) ≡ fine_real false l at
    eight_fine word = rw (code, word, part) (says-fine (coded_of 3 (code_of (eight_of (part_of l at)))) (eight_real (part_of l at)))

    pub six-fine : w ≡ six_of t → option_or (coded_of 2 c) (fine_real false l at) ≡ fine_real false l at
    six-fine word = rw (code, word, part) (says-fine (coded_of 2 (code_of (six_of (part_of l at)))) (six-real (part_of l at)))

  -- ---- whole numbers
  signed_or : option_or (signed_four (code_of (four_of (part_of l at)))) (fine_signed l at) ≡ fine_signed l at
  signed_or = go (eqb (code_of (four_of (part_of l at))) none) refl
    where
      go : (b : Bool) → let c = code_of (four_of (part_of l at)) in eqb c none ≡ b
          → option_or (cond b None (Some (with_sign (minus_in c) (front_in c)))) (fine_signed l at) ≡ fine_signed l at
      go true e = refl
      go false e = sym (four-said (part_of l at) e) ∙ signed-said l at

  unsigned_or : option_or (unsigned_five (code_of (five_of (part_of l at)))) (fine_unsigned l at) ≡ fine_unsigned l at
  unsigned_or = go (minus_in (code_of (five_of (part_of l at)))) refl
    where
      go : (b : Bool) → let c = code_of (five_of (part_of l at)) in minus_in c ≡ b
          → option_or (cond b None (Some (front_in c * 10 + behind_in c / 100))) (fine_unsigned l at) ≡ fine_unsigned l at
      go true e = refl
      go false e =
          let c = code_of (five_of (part_of l at)) in
          let small = leb-false (2 ^ 63) c e in
          sym (five_said (part_of l at) (ne_eqb c none (λ q. omega arith)) e) ∙ unsigned-said l at

  module _ {t : List ℕ} {w c : ℕ} (part : t ≡ part_of l at) (code : c ≡ code_of w) where
    pub four-fine : w ≡ four_of t → option_or (signed_four c) (fine_signed l at) ≡ fine_signed l at
    four-fine word = rw (code, word, part) signed_or

    pub five_fine : w ≡ five_of t → option_or (unsigned_five c) (fine_unsigned l at) ≡ fine_unsigned l at
    five_fine word = rw (code, word, part) unsigned_or

-- what `or_else` answers, of a closure that says P of the answer
pub or-is : {A : Type 0} (said other : Option A) (P : Type 0) {r : Option A} → (P → r ≡ other) → MatchOption said P (λ x. r ≡ Some x) → r ≡ option_or said other
or-is (Some x) other P is h = h
or-is None other P is h = is h
