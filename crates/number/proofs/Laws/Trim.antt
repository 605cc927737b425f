-- Laws of trim.
--     leading_le, kept-le, trimmed-le     trim adds nothing
--     leading-position                    the white bytes at the front, as the library finds the first other one
--     leading-none                        none, where the first byte stays
--     place_or_length                     its place, or the length
--     kept_none, kept_at                  what is kept, by the place of the last byte that stays
--     span_none, span_some                where the trimmed text lies
--     rest_from, rest-next                a part that goes to the end
-- Assumes nothing.
use Prim.Native.Nat.{ℕ, zero, suc, ◌+◌, ◌-◌, ◌≤◌, ◌<◌}
use mathlib.Core.Path.{◌≡◌, refl, sym, ap, ◌∙◌}
use mathlib.Core.Bool.{Bool, true, false, cond, not, ◌&&◌}
use mathlib.Core.List.{List, [], ◌∷◌, ◌++◌}
use native.Mathlib.Omega.{arith}
use borrow.Author.Tests.{eq-eqb, ne_eqb, ltb-false}
use native.Mathlib.Numerals.{add-one}
use lib.ListN.{length, take, drop, get_or, length-take, length-drop}
use lib.Seq.{drop-cons, take-suc, take_all, length-take-le}
use lib.Dec.{eqb, eqb-suc-zero}
use Rattle.std.specs.Prelude.{Option, Some, None, unwrap_or, nat_lt}
use Rattle.std.specs.List.{position, position_or_len}
use Rattle.std.proofs.lemmas.List.Recursion.{is_position_or_len}
use Rattle.std.proofs.lemmas.List.Sums.{prefix_len-le-length}
use Rattle.number.specs.Trim.{white, leading, kept, end_trimmed, trimmed, span_of}

cond_le : (b : Bool) (m n k : ℕ) → m ≤ k → n ≤ k → cond b m n ≤ k
cond_le true m n k p q = p
cond_le false m n k p q = q

pub leading_le : (t : List ℕ) → leading t ≤ length t
unfolding leading
leading_le [] = omega arith
leading_le (b ∷ t) = let ih = leading_le t in cond_le (white b) (suc (leading t)) 0 (suc (length t)) (omega arith) (omega arith)

pub kept-le : (t : List ℕ) → kept t ≤ length t
unfolding kept
kept-le [] = omega arith
kept-le (b ∷ t) =
    let ih = kept-le t in cond_le (white b && eqb (kept t) 0) 0 (suc (kept t)) (suc (length t)) (omega arith) (omega arith)

pub end_trimmed-le : (t : List ℕ) → length (end_trimmed t) ≤ length t
unfolding end_trimmed
end_trimmed-le t = simp length-take (omega arith)

pub trimmed-le : (t : List ℕ) → length (trimmed t) ≤ length t
unfolding trimmed
trimmed-le t = omega (arith, end_trimmed-le (drop (leading t) t), length-drop (leading t) t)

-- ---- from the front
pub leading-position : (t : List ℕ) → leading t ≡ position_or_len (λ b. not (white b)) t
unfolding leading
leading-position t = is_position_or_len leading (λ b. not (white b)) refl (λ b u. turned (white b) (leading u)) t
  where
    turned : (w : Bool) (n : ℕ) → cond w (suc n) 0 ≡ cond (not w) 0 (1 + n)
    turned true n = omega arith
    turned false n = refl

pub leading-none : (t : List ℕ) → white (get_or t 0 0) ≡ false → leading t ≡ 0
unfolding leading
leading-none [] e = refl
leading-none (b ∷ t) e = rw e refl

-- the place of the first byte that passes, or the length
pub place_or_length : (p : ℕ → Bool) (t : List ℕ) {r : Option ℕ} → r ≡ position p t → unwrap_or r (length t) ≡ position_or_len p t
place_or_length p t e = rw e (go (nat_lt (position_or_len p t) (length t)) refl)
  where
    go : (b : Bool) → nat_lt (position_or_len p t) (length t) ≡ b → unwrap_or (cond b (Some (position_or_len p t)) None) (length t) ≡ position_or_len p t
    go true e = refl
    go false e = omega (arith, ltb-false (position_or_len p t) (length t) e, prefix_len-le-length (λ b. not (p b)) t)

-- ---- from the end
-- by the place of the last byte that stays
not_false : (w : Bool) → not w ≡ false → w ≡ true
not_false true e = refl
not_false false e = sym e

not_true : (w : Bool) → not w ≡ true → w ≡ false
not_true true e = sym e
not_true false e = refl

never : (w : Bool) (n : ℕ) → n ≡ cond (w && false) 0 n
never true n = refl
never false n = refl

pub kept_none : (t : List ℕ) → ((k : ℕ) → k < length t → not (white (get_or t k 0)) ≡ false) → 0 ≡ kept t
unfolding kept
kept_none [] h = refl
kept_none (b ∷ t) h =
    let rest = kept_none t (λ k l. h (suc k) (omega arith)) in
    rw (not_false (white b) (h 0 (omega arith)), ← rest) refl

pub kept_at : (t : List ℕ) (i : ℕ) → i < length t → not (white (get_or t i 0)) ≡ true
    → ((k : ℕ) → i < k → k < length t → not (white (get_or t k 0)) ≡ false) → i + 1 ≡ kept t
unfolding kept
kept_at [] i l e h = absurd (omega arith)
kept_at (b ∷ t) zero l e h = rw (not_true (white b) e, ← kept_none t (λ k l. h (suc k) (omega arith) (omega arith))) refl
kept_at (b ∷ t) (suc i) l e h =
    let rest = kept_at t i (omega arith) e (λ k m n. h (suc k) (omega arith) (omega arith)) in
    rw (← rest, add-one i, eqb-suc-zero i) (add-one (suc i) ∙ never (white b) (suc (suc i)))

-- a text from a place on, as a part that goes to the end
pub rest_from : (i : ℕ) (t : List ℕ) → take (length t - i) (drop i t) ≡ drop i t
rest_from i t = take_all (length t - i) (drop i t) (simp length-drop (omega arith))

pub rest-next : (i : ℕ) (t : List ℕ) → take (length t - (i + 1)) (drop (i + 1) t) ≡ drop (suc i) t
rest-next i t = rest_from (i + 1) t ∙ ap (λ (n : ℕ). drop n t) (add-one i)

-- ---- where it lies
module _ (t : List ℕ) (p n : ℕ) (e : p ≡ leading t) (f : n ≡ kept (take (length t - p) (drop p t))) where
  span_length : n ≡ length (trimmed t)
  unfolding trimmed end_trimmed
  span_length =
      let u = drop (leading t) t in
      f ∙ rw e (ap kept (rest_from (leading t) t) ∙ sym (length-take-le (kept u) u (kept-le u)))

  pub span_none : n ≡ 0 → record { place = 0; length = 0 } ≡ span_of t
  unfolding span_of
  span_none z = rw (eq-eqb (length (trimmed t)) 0 (sym span_length ∙ z)) refl

  pub span_some : (n ≡ 0 → ⊥) → record { place = p; length = n } ≡ span_of t
  unfolding span_of
  span_some z = rw (ne_eqb (length (trimmed t)) 0 (λ q. z (span_length ∙ q))) (rw (e, span_length) refl)
