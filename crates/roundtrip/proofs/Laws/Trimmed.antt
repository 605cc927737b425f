-- Blanks around a text are trimmed, and what is read of a text field shows the trimmed part.
--     tail-out           blanks behind a text
--     side_trimmed       a text at a side of its columns
--     span_view          the view of a part's trimmed text
-- Assumes nothing.
use mathlib.Core.Path.{◌≡◌, refl, sym, ap, ◌∙◌}
use Prim.Native.Nat.{ℕ, zero, suc, ◌+◌, ◌-◌, ◌≤◌}
use native.Mathlib.Omega.{arith}
use borrow.Author.Tests.{le-leb, eqb-true}
use mathlib.Core.Bool.{Bool, true, false, cond}
use mathlib.Core.List.{List, [], ◌∷◌, ◌++◌}
use lib.ListN.{length, take, drop, length-drop}
use lib.Seq.{take-take, drop-drop, length-take-le, take-append-le}
use lib.Dec.{eqb}
use Rattle.number.specs.Trim.{white, leading, kept, end_trimmed, trimmed, span_of}
use Rattle.number.proofs.Laws.Trim.{leading_le, kept-le}
use Rattle.cell.specs.Text.{blanks, right}
use Rattle.cell.specs.Words.{left}
use Rattle.cell.proofs.Laws.Text.{right-trimmed}
use Rattle.line.specs.Text.{within_of}
use Rattle.field.specs.Text.{shifted}

-- ---- blanks behind a text
blanks-kept : (k : ℕ) → kept (blanks k) ≡ 0
unfolding kept blanks white
blanks-kept zero = refl
blanks-kept (suc k) = rw (blanks-kept k) refl

tail-kept : (t : List ℕ) (k : ℕ) → kept (t ++ blanks k) ≡ kept t
unfolding kept
tail-kept [] k = blanks-kept k
tail-kept (b ∷ t) k = rw (tail-kept t k) refl

-- a byte at the front goes, or else it stays and so does all up to the last that isn't white
module _ (b : ℕ) (t : List ℕ) where
  white-out : white b ≡ true → trimmed (b ∷ t) ≡ trimmed t
  unfolding trimmed leading
  white-out h = rw h refl

  dark_in : white b ≡ false → trimmed (b ∷ t) ≡ take (kept (b ∷ t)) (b ∷ t)
  unfolding trimmed leading end_trimmed
  dark_in h = rw h refl

blanks-trimmed : (k : ℕ) → trimmed (blanks k) ≡ []
unfolding trimmed leading end_trimmed kept blanks white
blanks-trimmed zero = refl
blanks-trimmed (suc k) = blanks-trimmed k

none-trimmed : trimmed [] ≡ []
unfolding trimmed leading end_trimmed kept
none-trimmed = refl

pub tail-out : (t : List ℕ) (k : ℕ) → trimmed (t ++ blanks k) ≡ trimmed t
tail-out [] k = blanks-trimmed k ∙ sym none-trimmed
tail-out (b ∷ t) k = go (white b) refl (tail-out t k)
  where
    go : (x : Bool) → white b ≡ x → trimmed (t ++ blanks k) ≡ trimmed t → trimmed (b ∷ t ++ blanks k) ≡ trimmed (b ∷ t)
    go true h more = white-out b (t ++ blanks k) h ∙ more ∙ sym (white-out b t h)
    go false h more =
        dark_in b (t ++ blanks k) h ∙ ap (λ (n : ℕ). take n (b ∷ t ++ blanks k)) (tail-kept (b ∷ t) k)
        ∙ take-append-le (kept (b ∷ t)) (b ∷ t) (blanks k) (kept-le (b ∷ t)) ∙ sym (dark_in b t h)

pub side_trimmed : (isLeft : Bool) (w : ℕ) (t : List ℕ) → trimmed (cond isLeft (left w t) (right w t)) ≡ trimmed t
unfolding left
side_trimmed true w t = tail-out t (w - length t)
side_trimmed false w t = right-trimmed w t

-- ---- where the trimmed text lies
inside : (u : List ℕ) (k n w : ℕ) → k + n ≤ w → take n (drop k (take w u)) ≡ take n (drop k u)
inside u zero n w h = take-take n w u (omega arith)
inside u (suc k) n zero h = absurd (omega arith)
inside [] (suc k) n (suc w) h = refl
inside (x ∷ u) (suc k) n (suc w) h = inside u k n w (omega arith)

none : (t : List ℕ) → length t ≡ 0 → [] ≡ t
none [] h = refl
none (x ∷ t) h = absurd (omega arith)

none_within : (l : List ℕ) → within_of l 0 0 ≡ []
unfolding within_of
none_within l = rw (le-leb (0 + 0) (length l) (omega arith)) refl

trimmed-is : (p : List ℕ) → take (length (trimmed p)) (drop (leading p) p) ≡ trimmed p
unfolding trimmed end_trimmed
trimmed-is p =
    let u = drop (leading p) p in
    ap (λ (n : ℕ). take n u) (length-take-le (kept u) u (kept-le u))

trimmed_in : (p : List ℕ) → leading p + length (trimmed p) ≤ length p
unfolding trimmed end_trimmed
trimmed_in p =
    let u = drop (leading p) p in
    omega (arith, length-take-le (kept u) u (kept-le u), kept-le u, length-drop (leading p) p, leading_le p)

module _ (l : List ℕ) (a w : ℕ) (p : List ℕ) (e : take w (drop a l) ≡ p) (h : a + w ≤ length l) where
  part-long : length p ≡ w
  part-long = rw (← e) (length-take-le w (drop a l) (omega (arith, length-drop a l)))

  found : within_of l (a + leading p) (length (trimmed p)) ≡ trimmed p
  unfolding within_of
  found =
      let n = length (trimmed p) in
      let k = leading p in
      let fit = trimmed_in p in
      let long = part-long in
      let there : take n (drop (a + k) l) ≡ take n (drop k p) =
      ap (take n) (sym (drop-drop k a l)) ∙ sym (inside (drop a l) k n w (omega arith)) ∙ ap (λ (z : List ℕ). take n (drop k z)) e in
      rw (le-leb (a + k + n) (length l) (omega arith)) (there ∙ trimmed-is p)

  pub span_view : within_of l (shifted a (span_of p)).place (shifted a (span_of p)).length ≡ trimmed p
  unfolding span_of
  span_view = go (eqb (length (trimmed p)) 0) refl
    where
      empty : length (trimmed p) ≡ 0 → within_of l 0 0 ≡ trimmed p
      empty z = none_within l ∙ none (trimmed p) z

      go : (b : Bool) → eqb (length (trimmed p)) 0 ≡ b
          → within_of l (shifted a (cond b (record { place = 0; length = 0 }) (record { place = leading p; length = length (trimmed p) }))).place
          (shifted a (cond b (record { place = 0; length = 0 }) (record { place = leading p; length = length (trimmed p) }))).length ≡ trimmed p
      go true z = empty (eqb-true (length (trimmed p)) 0 z)
      go false z = rw z found
