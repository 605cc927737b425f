-- Texts with an exponent, by the parts that the code reads, and their limits.
--     none_in, parts_in                        by the place of the mark
--     parts-other, parts_none, parts-both      by what stands before it and behind it
--     in_limits, marked_limits, wide_limits    M is below 10 ^ 10, and p is at most 9
-- Assumes nothing.
use Prim.Native.Nat.{ℕ, suc, ◌+◌, ◌-◌, ◌^◌, ◌≤◌, ◌<◌}
use mathlib.Core.Path.{◌≡◌, refl, ap, ◌∙◌}
use mathlib.Core.Bool.{Bool, true, false, cond}
use mathlib.Core.List.{List, [], ◌∷◌}
use native.Mathlib.Omega.{arith}
use borrow.Author.Tests.{leb-true}
use lib.ListN.{length, take, drop, length-take, length-drop}
use lib.Dec.{leb}
use Rattle.std.specs.Prelude.{Option, Some, None}
use Rattle.number.specs.Trim.{trimmed}
use Rattle.number.specs.Whole.{begins, after_sign, digits_of}
use Rattle.number.specs.Decimal.{plain, plain_of, decimal_of}
use Rattle.number.specs.Wide.{wide, mark_at, before_mark, behind_mark, wide_from, marked_parts, marked_in, marked_of, without_mark, wide_of, WideLimits}
use Rattle.number.specs.declared.decimal.Decimal.{Decimal}
use Rattle.number.proofs.Laws.Trim.{rest-next}
use Rattle.number.proofs.Laws.Grammar.{plain_form}
use Rattle.number.proofs.Laws.Width.{plain-within, decimal_limits}

-- ---- what stands before the mark, and behind it
-- without a mark nothing stands behind it
none-behind : (d : Option Decimal) (lower : Bool) → None ≡ wide_from d lower None
none-behind None lower = refl
none-behind (Some d) lower = refl

unmarked : (t u : List ℕ) → u ≡ [] → None ≡ marked_parts t u
unfolding marked_parts begins digits_of after_sign
unmarked t u e = rw e (none-behind (plain_of (begins 45 t) (after_sign t)) false)

module _ (t u : List ℕ) where
  pub parts-other : plain_of (begins 45 t) (after_sign t) ≡ None → None ≡ marked_parts t u
  unfolding marked_parts
  parts-other e = rw e refl

  pub parts_none : digits_of (after_sign u) ≡ None → None ≡ marked_parts t u
  unfolding marked_parts
  parts_none e = rw e (none-behind (plain_of (begins 45 t) (after_sign t)) (begins 45 u))

  pub parts-both : {d : Decimal} {x : ℕ} {lower : Bool} → plain_of (begins 45 t) (after_sign t) ≡ Some d → digits_of (after_sign u) ≡ Some x
      → lower ≡ begins 45 u → Some (wide d lower x) ≡ marked_parts t u
  unfolding marked_parts
  parts-both e f g = rw (e, f, g) refl

-- ---- by the place of the mark
none_left : (t : List ℕ) (n : ℕ) → length t ≤ n → drop n t ≡ []
none_left t n h = go (drop n t) (omega (arith, length-drop n t))
  where
    go : (u : List ℕ) → length u ≤ 0 → u ≡ []
    go [] h = refl
    go (b ∷ u) h = absurd (omega arith)

pub none_in : (t : List ℕ) → length t ≤ mark_at t → None ≡ marked_in t
unfolding marked_in
none_in t h = unmarked (before_mark t) (behind_mark t) (none_left t (suc (mark_at t)) (omega arith))

pub parts_in : (t : List ℕ) (i : ℕ) → i ≡ mark_at t → marked_parts (take i t) (take (length t - (i + 1)) (drop (i + 1) t)) ≡ marked_in t
unfolding marked_in
parts_in t i e = ap (marked_parts (take i t)) (rest-next i t) ∙ rw e refl

-- ---- the limits
from_limits : (d : Option Decimal) (lower : Bool) (x : Option ℕ) → ((e : Decimal) → d ≡ Some e → (e.digits < 10 ^ 10) × (e.places ≤ 9))
    → WideLimits (wide_from d lower x)
from_limits None lower x h = tt
from_limits (Some d) lower None h = tt
from_limits (Some d) lower (Some x) h = h d refl

pub in_limits : (t : List ℕ) → length t ≤ 10 → WideLimits (marked_in t)
unfolding marked_in marked_parts
in_limits t l =
    let f = before_mark t in
    let short : length f ≤ 10 = simp length-take (omega arith) in
    from_limits (plain_of (begins 45 f) (after_sign f)) (begins 45 (behind_mark t)) (digits_of (after_sign (behind_mark t)))
    (λ d e. plain-within (plain_form f e) 10 short)

pub marked_limits : (t : List ℕ) → WideLimits (marked_of t)
unfolding marked_of
marked_limits t = go (leb (length (trimmed t)) 10) refl
  where
    go : (b : Bool) → leb (length (trimmed t)) 10 ≡ b → WideLimits (cond b (marked_in (trimmed t)) None)
    go true e = in_limits (trimmed t) (leb-true (length (trimmed t)) 10 e)
    go false e = tt

pub wide_limits : (t : List ℕ) → WideLimits (wide_of t)
unfolding wide_of
wide_limits t = go (decimal_of t) refl
  where
    go : (d : Option Decimal) → decimal_of t ≡ d → WideLimits (without_mark d (marked_of t))
    go (Some d) e = decimal_limits t e
    go None e = marked_limits t
