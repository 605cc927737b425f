-- The rows of words, and that they are those of the changes which the words hold.
--     rows_next, rows-done     a turn of the loop over the words
--     word-tells               a word says its change
--     Small, changes_small     places and lengths that a word has bits for: those of a line of up to 1,024 bytes
--     cut-row, cut-none        the row of a line that is cut, or none
--     rows_told                the rows of a line's words are those of its changes
-- Assumes nothing.
use Prim.Native.Nat.{ℕ, suc, ◌+◌, ◌-◌, ◌*◌, ◌/◌, ◌%◌, ◌<◌, ◌≤◌}
use mathlib.Core.Path.{◌≡◌, refl}
use mathlib.Core.Bool.{Bool, true, false, cond}
use mathlib.Core.List.{List, [], ◌∷◌, ◌++◌, map, append-nil}
use native.Mathlib.Numerals.{add-one}
use native.Mathlib.Omega.{arith}
use borrow.Author.Tests.{ltb-true, ltb-false}
use lib.ListN.{length, drop, get_or, drop_of_length-le}
use lib.Seq.{drop-cons}
use lib.Dec.{eqb, ltb}
use Rattle.line.specs.declared.columns.Columns.{Columns}
use Rattle.std.specs.Prelude.{Some, None}
use Rattle.mend.specs.Mend.{padding, left_cut}
use Rattle.mend.specs.Changes.{What, Change, change, runs, changes_of, what_number, word, word_of}
use Rattle.mend.proofs.Laws.Mended.{pad_within}
use Rattle.page.specs.Page.{Page, put}
use Rattle.page.proofs.Laws.Page.{put_step}
use Rattle.repair.specs.Rows.{row_by, word_row, word_rows, change_rows, cut_row, cut_rows}

-- ---- the loop
module _ (words : List ℕ) (i number : ℕ) (p e : Page) (v : put p (word_rows number (drop i words)) ≡ e) where
  pub rows_next : (q : Page) → i < length words → q ≡ put p (word_row number (get_or words i 0)) → put q (word_rows number (drop (i + 1) words)) ≡ e
  unfolding word_rows
  rows_next q h f =
      put_step p q e (word_row number (get_or words i 0)) (word_rows number (drop (i + 1) words)) f
      (rw (add-one i) (rw (drop-cons words i 0 h) at v))

  pub rows-done : length words ≤ i → p ≡ e
  unfolding word_rows put
  rows-done h = rw (drop_of_length-le words h) at v

-- ---- a word and its change
abbrev pub Small : List Change → Type 0
Small [] = Unit {0}
Small (c ∷ rest) = (c.place < 65536) × (c.length < 65536) × Small rest

split : (w x p : ℕ) → w ≡ x * 65536 + p → p < 65536 → (w / 65536 ≡ x) × (w % 65536 ≡ p)
split w x p e h = go (ltb (w / 65536) x) refl (ltb x (w / 65536)) refl
  where
    go : (a : Bool) → ltb (w / 65536) x ≡ a → (b : Bool) → ltb x (w / 65536) ≡ b → (w / 65536 ≡ x) × (w % 65536 ≡ p)
    go true f b g = let k = ltb-true (w / 65536) x f in absurd (omega arith)
    go false f true g = let k = ltb-true x (w / 65536) g in absurd (omega arith)
    go false f false g =
        let k = ltb-false (w / 65536) x f in
        let m = ltb-false x (w / 65536) g in
        (omega arith, omega arith)

pub word-tells : (number what place n : ℕ) → place < 65536 → n < 65536 → word_row number (word what place n) ≡ row_by number place n what
unfolding word_row
word-tells number what place n h k =
    let a = split (word what place n) (what * 65536 + n) place (omega arith) h in
    let b = split (what * 65536 + n) what n refl k in
    rw (a.1, a.0, b.1, b.0) refl

rows_same : (number : ℕ) (cs : List Change) → Small cs → word_rows number (map word_of cs) ≡ change_rows number cs
unfolding word_rows
rows_same number [] h = refl
rows_same number (c ∷ cs) h =
    rw (word-tells number (what_number c.what) c.place c.length h.0 h.1, rows_same number cs h.2) refl

small-append : (a b : List Change) → Small a → Small b → Small (a ++ b)
small-append [] b h k = k
small-append (c ∷ a) b h k = (h.0, h.1, small-append a b h.2 k)

small-change : (w : What) (at n : ℕ) → n ≤ at → at < 65536 → Small (change w at n)
small-change w at n h k = go (eqb n 0)
  where
    go : (x : Bool) → Small (cond {A = List Change} x [] (record { place = at - n; length = n; what = w } ∷ []))
    go true = tt
    go false = (omega arith, omega arith, tt)

small-runs : (at n : ℕ) (t : List ℕ) → n ≤ at → at + length t < 65536 → Small (runs at n t)
unfolding runs
small-runs at n [] h k = small-change What.replaced at n h (omega arith)
small-runs at n (b ∷ t) h k =
    go (ltb b 128) (small-change What.replaced at n h (omega arith)) (small-runs (suc at) 0 t (omega arith) (omega arith)) (small-runs (suc at) (suc n) t (omega arith) (omega arith))
  where
    go : (x : Bool) → Small (change What.replaced at n) → Small (runs (suc at) 0 t) → Small (runs (suc at) (suc n) t)
        → Small (cond x (change What.replaced at n ++ runs (suc at) 0 t) (runs (suc at) (suc n) t))
    go true p q s = small-append (change What.replaced at n) (runs (suc at) 0 t) p q
    go false p q s = s

pub changes_small : (l : List ℕ) → length l ≤ 1024 → Small (changes_of l)
unfolding changes_of
changes_small l h =
    small-append (runs 0 0 l) (change What.padded (length l + padding l) (padding l)) (small-runs 0 0 l (omega arith) (omega arith))
    (small-change What.padded (length l + padding l) (padding l) (omega arith) (omega (arith, pad_within l h)))

pub rows_told : (number : ℕ) (l : List ℕ) → length l ≤ 1024 → word_rows number (map word_of (changes_of l)) ≡ change_rows number (changes_of l)
rows_told number l h = rows_same number (changes_of l) (changes_small l h)

-- ---- the row of a line that is cut
module _ (l : List ℕ) (number : ℕ) (p q : Page) where
  pub cut-row : (found : Columns) → Some found ≡ left_cut l → q ≡ put p (cut_row number found (length l)) → q ≡ put p (cut_rows number l)
  unfolding cut_rows
  cut-row found e f = rw (← e) f

  pub cut-none : (a : List ℕ) → None ≡ left_cut l → q ≡ put p a → q ≡ put p (a ++ cut_rows number l)
  unfolding cut_rows
  cut-none a e f = rw (← e, append-nil a) f
