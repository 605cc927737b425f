-- Laws of signed numbers.
--     minus_held, plus_held      a number below 2^64 as I, by what the machine answers of 0 - n and 0 + n
--     minus_is, minus-fits       what the machine makes of 0 - n
--     held-is                    what it holds of a number within 64 bits
--     signed_by, signed-of       digits as I, by way of what they say as U, and a text by way of its calls
-- Assumes nothing.
use Prim.Native.Nat.{ℕ, zero, suc, ◌-◌, ◌^◌, ◌≤◌, ◌<◌}
use mathlib.Core.Path.{◌≡◌, refl, ap, ◌∙◌}
use mathlib.Core.Bool.{Bool, true, false, cond, ◌&&◌}
use mathlib.Core.List.{List}
use native.Mathlib.Omega.{arith}
use borrow.Author.Tests.{le-leb, lt-leb, lt-ltb, leb-true}
use lib.Dec.{leb, ltb}
use lib.IntN.{ℤ, pos, neg_ℤ, ◌+ℤ◌, ◌-ℤ◌, +ℤ_idl}
use lib.Signed.{mag}
use mir.Syntax.{w64}
use mir.Val.{SFits, to_z, of_z}
use mir.Facts.{to_z_pos, to_z-of_z}
use Rattle.std.specs.Prelude.{Option, Some, None}
use Rattle.std.specs.Option.{SomeIff}
use Rattle.number.specs.Trim.{trimmed}
use Rattle.number.specs.Whole.{some_digits, value_of, begins, after_sign, most, with_sign}
use Rattle.number.specs.Whole.{digits_of, signed_digits, signed_of, signed_from}

-- ---- by what the machine answers
yes : (s : Bool) (n : ℕ) → n ≤ most s → Some (with_sign s n) ≡ signed_from s n
unfolding signed_from
yes s n h = rw (le-leb n (most s) h) refl

no : (s : Bool) (n : ℕ) → most s < n → None ≡ signed_from s n
unfolding signed_from
no s n h = rw (lt-leb n (most s) h) refl

fits-of : (s : Bool) (n : ℕ) → n ≤ most s → SFits w64 (with_sign s n)
fits-of false n h = record { sfits = omega arith }
fits-of true zero h = record { sfits = omega arith }
fits-of true (suc n) h = record { sfits = omega arith }

most-of : (s : Bool) (n : ℕ) → SFits w64 (with_sign s n) → n ≤ most s
most-of false n f = let h = f.sfits in omega arith
most-of true zero f = omega arith
most-of true (suc n) f = let h = f.sfits in omega arith

-- the number, if 64 bits hold it
held_by : (s : Bool) (n : ℕ) (r : Option ℤ) → SomeIff r (SFits w64 (with_sign s n)) (with_sign s n) → r ≡ signed_from s n
held_by s n (Some z) (f, e) = ap Some e ∙ yes s n (most-of s n f)
held_by s n None none = go (leb n (most s)) refl
  where
    go : (b : Bool) → leb n (most s) ≡ b → None ≡ signed_from s n
    go true l = absurd (none (fits-of s n (leb-true n (most s) l)))
    go false l = unfold signed_from in rw l refl

pub minus_held : (n : ℕ) (r : Option ℤ) → SomeIff r (SFits w64 (pos 0 -ℤ pos n)) (pos 0 -ℤ pos n) → r ≡ signed_from true n
minus_held n r h = held_by true n r (rw (+ℤ_idl (neg_ℤ (pos n))) at h)

pub plus_held : (n : ℕ) (r : Option ℤ) → SomeIff r (SFits w64 (pos 0 +ℤ pos n)) (pos 0 +ℤ pos n) → r ≡ signed_from false n
plus_held n r h = held_by false n r (rw (+ℤ_idl (pos n)) at h)

-- ---- what the machine makes of it
pub minus_is : (n : ℕ) → n ≤ 2 ^ 63 - 1 → pos 0 -ℤ to_z w64 n ≡ neg_ℤ (pos n)
minus_is n h = rw (to_z_pos w64 {n = n} (omega arith)) (+ℤ_idl (neg_ℤ (pos n)))

pub minus-fits : (n : ℕ) → n ≤ 2 ^ 63 - 1 → SFits w64 (neg_ℤ (pos n))
minus-fits n h = fits-of true n (omega arith)

pub held-is : {z : ℤ} → mag z < 2 ^ 63 → to_z w64 (of_z w64 z) ≡ z
held-is h = to_z-of_z {w = w64} (record { sfits = h })

-- ---- by way of U
abbrev pub signed_by_of : Bool → Option ℕ → Option ℤ
signed_by_of s None = None
signed_by_of s (Some n) = signed_from s n

most-fits : (s : Bool) (n : ℕ) → n ≤ most s → n < 2 ^ 64
most-fits false n h = omega arith
most-fits true n h = omega arith

pub signed_by : (s : Bool) (t : List ℕ) → signed_digits s t ≡ signed_by_of s (digits_of t)
unfolding signed_digits digits_of signed_from
signed_by s t = go (some_digits t) (leb (value_of t) (most s)) refl
  where
    go : (a b : Bool) → leb (value_of t) (most s) ≡ b
        → cond (a && b) (Some (with_sign s (value_of t))) None ≡ signed_by_of s (cond (a && ltb (value_of t) (2 ^ 64)) (Some (value_of t)) None)
    go false b e = refl
    go true true e = rw (lt-ltb (value_of t) (2 ^ 64) (most-fits s (value_of t) (leb-true (value_of t) (most s) e))) (rw e refl)
    go true false e = over (ltb (value_of t) (2 ^ 64)) e
      where
        over : (d : Bool) → leb (value_of t) (most s) ≡ false → None ≡ signed_by_of s (cond d (Some (value_of t)) None)
        over true e = rw e refl
        over false e = refl

pub signed-of : (t u v : List ℕ) (s : Bool) (d : Option ℕ) → u ≡ trimmed t → v ≡ after_sign u → s ≡ begins 45 u → d ≡ digits_of v
    → signed_by_of s d ≡ signed_of t
unfolding signed_of
signed-of t u v s d p q r e = rw (signed_by (begins 45 (trimmed t)) (after_sign (trimmed t)), ← p, ← q, ← r, ← e) refl
