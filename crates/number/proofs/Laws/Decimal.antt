-- Laws of plain decimals.
--     point-split                      any text is what stands before its point, and a point with what stands behind it
--     plain-parted                     digits, then a fraction
--     plain-none, -whole, -other       what a text says, by the run that the code reads
--     plain-point, -short, -both       and at a point, by the run behind it
-- Assumes nothing.
use Prim.Native.Nat.{ℕ, suc, ◌+◌, ◌^◌, ◌≤◌, ◌<◌}
use mathlib.Core.Path.{◌≡◌, refl, sym, ap, ◌∙◌}
use mathlib.Core.Bool.{Bool, true, false, cond, ◌&&◌}
use mathlib.Core.List.{List, [], ◌∷◌, ◌++◌, append-nil, append_assoc}
use native.Mathlib.Omega.{arith}
use borrow.Author.Tests.{lt-ltb, le-ltb, eqb-true, ne_eqb}
use lib.ListN.{length, take, drop, get_or, length-append, length-take, length-drop}
use lib.Seq.{split_at}
use lib.Dec.{lit<, ltb, eqb}
use Rattle.std.specs.Prelude.{Option, Some, None}
use Rattle.number.specs.Whole.{digit, digits, some_digits, joined, joins, value_from, value_of, run_of}
use Rattle.number.specs.Decimal.{plain, before_point, behind_point, without_point, plain_of}
use Rattle.number.specs.Grammar.{Fraction, whole, point}
use Rattle.number.specs.declared.whole.Run.{Run}
use Rattle.number.specs.declared.decimal.Decimal.{Decimal}
use Rattle.number.proofs.Laws.Choice.{and_left, and_right, and_both, choose, pass, clash}
use Rattle.number.proofs.Laws.Digits.{digit-at_most, digit_not, digits_append, value-append, value-below}
use Rattle.number.proofs.Laws.Run.{run_front, run_full, run_short}

-- ---- around the point
pub point-split : (t : List ℕ) → (tail : List ℕ) × Fraction tail (behind_point t) × (t ≡ before_point t ++ tail)
unfolding before_point behind_point
point-split [] = ([], whole, refl)
point-split (b ∷ t) = go (eqb b 46) refl (point-split t)
  where
    go : (p : Bool) → eqb b 46 ≡ p → ((tail : List ℕ) × Fraction tail (behind_point t) × (t ≡ before_point t ++ tail))
        → (tail : List ℕ) × Fraction tail (cond p t (behind_point t)) × (b ∷ t ≡ cond p [] (b ∷ before_point t) ++ tail)
    go true e h = (46 ∷ t, point t, ap (λ (k : ℕ). k ∷ t) (eqb-true b 46 e))
    go false e (tail, f, h) = (tail, f, ap (λ (l : List ℕ). b ∷ l) h)

-- digits at the front stand before the point
around-digits : (d t : List ℕ) → digits d ≡ true
    → (before_point (d ++ t) ≡ d ++ before_point t) × (behind_point (d ++ t) ≡ behind_point t)
unfolding before_point behind_point digits
around-digits [] t e = (refl, refl)
around-digits (b ∷ d) t e =
    let other = digit_not 46 b (lit< tt) (and_left (digit b) (digits d) e) in
    let (p, q) = around-digits d t (and_right (digit b) (digits d) e) in
    (rw other (ap (λ (l : List ℕ). b ∷ l) p), rw other q)

without-digits : (d t : List ℕ) → digits d ≡ true → without_point (d ++ t) ≡ d ++ without_point t
unfolding without_point
without-digits d t e = let (p, q) = around-digits d t e in rw (p, q) (append_assoc d (before_point t) (behind_point t))

-- ---- digits, and what stands behind them
-- the plain decimal of the digits d and, behind the point, u
abbrev pub parted : Bool → List ℕ → List ℕ → Option Decimal
parted s d u = cond (some_digits (d ++ u)) (Some (plain s (value_of (d ++ u)) (length u))) None

fraction-parts : {t u : List ℕ} → Fraction t u → (without_point t ≡ u) × (behind_point t ≡ u)
unfolding without_point before_point behind_point
fraction-parts whole = (refl, refl)
fraction-parts (point u) = (refl, refl)

pub plain-parted : (s : Bool) (d : List ℕ) {t u : List ℕ} → Fraction t u → digits d ≡ true → plain_of s (d ++ t) ≡ parted s d u
unfolding plain_of
plain-parted s d {t} f e = let (p, q) = fraction-parts f in rw (without-digits d t e, (around-digits d t e).1, p, q) refl

without_other : (b : ℕ) (t : List ℕ) → eqb b 46 ≡ false → without_point (b ∷ t) ≡ b ∷ without_point t
unfolding without_point before_point behind_point
without_other b t n = rw n refl

plain-stopped : (s : Bool) (d : List ℕ) (b : ℕ) (t : List ℕ) → digits d ≡ true → eqb b 46 ≡ false → (digit b ≡ true → ⊥)
    → None ≡ plain_of s (d ++ b ∷ t)
unfolding plain_of digits
plain-stopped s d b t e n none =
    let u = without_point (d ++ b ∷ t) in
    let v = without_point t in
    let text = without-digits d (b ∷ t) e ∙ ap (λ (l : List ℕ). d ++ l) (without_other b t n) in
    let same = ap digits text ∙ digits_append d (b ∷ v) in
    pass (some_digits u) (Some (plain s (value_of u) (length (behind_point (d ++ b ∷ t))))) None
    (λ y.
    none (and_left (digit b) (digits v)
    (and_right (digits d) (digit b && digits v) (sym same ∙ and_right (ltb 0 (length u)) (digits u) y))))

-- ---- by the runs that the code reads
pub plain-none : (s : Bool) (t : List ℕ) → length t ≡ 0 → None ≡ plain_of s t
unfolding plain_of without_point before_point behind_point
plain-none s [] e = refl
plain-none s (b ∷ t) e = absurd (omega arith)

-- the text up to the byte that a run ends at, that byte, and the text behind it
abbrev ahead : List ℕ → Run → List ℕ
ahead t r = take r.count t

abbrev next : List ℕ → Run → ℕ
next t r = get_or t r.count 0

abbrev rest : List ℕ → Run → List ℕ
rest t r = drop (suc r.count) t

module _ (s : Bool) (t : List ℕ) (r : Run) (e : r ≡ run_of 0 0 t) where
  pub plain-whole : 0 < r.count → length t ≤ r.count → Some (plain s r.value 0) ≡ plain_of s t
  plain-whole some h =
      let f = run_full t 0 r e (lit< tt) h in
      ap (λ (v : ℕ). Some (plain s v 0)) f.2
      ∙ choose (Some (plain s (value_of t) 0)) None (and_both (lt-ltb 0 (length t) (omega (arith, (run_front t 0 r e).within))) f.0)
      ∙ sym (rw (append-nil t) at (plain-parted s t whole f.0))

  module _ (h : r.count < length t) where
    -- in ten bytes there is room for one digit more, so the byte is none
    pub plain_other : length t ≤ 10 → (next t r ≡ 46 → ⊥) → None ≡ plain_of s t
    unfolding joins
    plain_other short other =
        let f = run_front t 0 r e in
        let v = rw (← f.value) at (value-below (ahead t r) 10 f.each (simp length-take (omega arith))) in
        plain-stopped s (ahead t r) (next t r) (rest t r) f.each (ne_eqb (next t r) 46 other)
        (λ y.
        let m = digit-at_most (next t r) y in
        clash (and_both y (lt-ltb (joined r.value (next t r)) (2 ^ 64) (omega arith))) (f.stops h))
        ∙ sym (ap (plain_of s) (split_at t r.count 0 h))

    module _ (q : next t r ≡ 46) where
      at-point : plain_of s t ≡ parted s (ahead t r) (rest t r)
      at-point =
          ap (plain_of s) (split_at t r.count 0 h ∙ ap (λ (b : ℕ). ahead t r ++ b ∷ rest t r) q)
          ∙ plain-parted s (ahead t r) (point (rest t r)) (run_front t 0 r e).each

      lengths : length t ≡ length (ahead t r ++ rest t r) + 1
      lengths = simp (length-append, length-take, length-drop) (omega arith)

      pub plain-point : length t < 2 → None ≡ plain_of s t
      plain-point few = rw (at-point, le-ltb 0 (length (ahead t r ++ rest t r)) (omega (arith, lengths))) refl

      -- behind the point the code reads a run p
      module _ (p : Run) (g : p ≡ run_of r.value 0 (rest t r)) where
        value-both : value_of (ahead t r ++ rest t r) ≡ value_from r.value (rest t r)
        value-both = rw (run_front t 0 r e).value (value-append (ahead t r) (rest t r) 0)

        pub plain-short : length t ≤ 10 → p.count < length (rest t r) → None ≡ plain_of s t
        plain-short short l =
            let all = ahead t r ++ rest t r in
            pass (some_digits all) (Some (plain s (value_of all) (length (rest t r)))) None
            (λ y.
            let each = and_right (ltb 0 (length all)) (digits all) y in
            let v = value-below all 10 each (omega (arith, lengths)) in
            run_short (rest t r) r.value p g l
            (and_right (digits (ahead t r)) (digits (rest t r)) (sym (digits_append (ahead t r) (rest t r)) ∙ each))
            (omega (arith, value-both)))
            ∙ sym at-point

        pub plain-both : 2 ≤ length t → length (rest t r) ≤ p.count → Some (plain s p.value (length (rest t r))) ≡ plain_of s t
        plain-both two l =
            let all = ahead t r ++ rest t r in
            let f = run_front t 0 r e in
            let a = run_full (rest t r) r.value p g (f.fits (lit< tt)) l in
            let each = digits_append (ahead t r) (rest t r) ∙ and_both f.each a.0 in
            let some = and_both (lt-ltb 0 (length all) (omega (arith, lengths))) each in
            ap (λ (v : ℕ). Some (plain s v (length (rest t r)))) (a.2 ∙ sym value-both)
            ∙ choose (Some (plain s (value_of all) (length (rest t r)))) None some
            ∙ sym at-point
