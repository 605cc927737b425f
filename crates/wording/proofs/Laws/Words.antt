-- Laws of words that are put.
--     read-any        a place within the line reads the same whatever stands in for one behind it
--     puts_none       nothing is put
--     puts_then       words in front of others: one put after the other
--     puts-next, puts-all    the words of one element more of a list, and of the last
--     row-two         a row has two words at most
--     two-more        how far the place is behind so many rows
--     puts-most       so many rows have twice as many words at most
--     fields-padded, rows-most    sixteen rows have the words of a record's fields, and no more than 32
--     puts-row, puts-last, puts-both  the words of one row more, of one row alone, and of two lists of rows
--     front-two       words behind two others, at the front
--     fills, fills-few, fills_one what is left of lent words, by whether there are enough of them; it is one content
--     words-listed    a row has two words where the listing shows it, and none elsewhere
-- Assumes nothing.
use Prim.Native.Nat.{ℕ, suc, ◌+◌, ◌-◌, ◌*◌, ◌/◌, ◌≤◌, ◌<◌}
use mathlib.Core.Path.{◌≡◌, refl, sym, ◌∙◌}
use mathlib.Core.Bool.{cond}
use mathlib.Core.List.{List, [], ◌∷◌, ◌++◌, append-nil, append_assoc}
use native.Mathlib.Omega.{arith}
use native.Mathlib.Numerals.{add-one}
use borrow.Author.Tests.{lt-ltb, le-ltb}
use lib.ListN.{length, get_or, set, take, drop, length-append}
use lib.Seq.{sets, sets-eq, take_all}
use Rattle.layout.specs.Each.{each}
use Rattle.layout.proofs.Laws.Each.{each-padded}
use Rattle.row.specs.Rows.{padded}
use Rattle.lexitem.specs.Describe.{fields_of}
use Rattle.lexitem.specs.declared.item.LexItem.{LexItem}
use Rattle.lexitem.proofs.Laws.Kinds.{rows_sixteen}
use Rattle.line.specs.declared.text.Character.{Character}
use Rattle.line.specs.declared.text.Character.TheVariants.{At, Unreached, Absent}
use Rattle.row.specs.declared.Row.{Row}
use Rattle.row.specs.declared.Value.{Value}
use Rattle.row.specs.declared.Value.TheVariants.{Unsigned, Signed, Real, Factor, Words, One, Flag, Nothing}
use Rattle.layout.specs.Row.{present}
use Rattle.wording.specs.Fields.{character_words, value_words, row_words, rows_words, over, Fills}
use Rattle.wording.specs.Put.{Puts}

pub read-any : (l : List ℕ) (n d e : ℕ) → n < length l → get_or l n d ≡ get_or l n e
read-any [] n d e h = absurd (omega arith)
read-any (b ∷ t) ℕ.zero d e h = refl
read-any (b ∷ t) (suc n) d e h = read-any t n d e (omega arith)

pub puts_none : (l : List ℕ) (at : ℕ) → Puts l at [] at l
puts_none l at = record { behind = omega arith; stands = refl }

sets_append : (us vs l : List ℕ) (at : ℕ) → sets l at (us ++ vs) ≡ sets (sets l at us) (at + length us) vs
sets_append [] vs l at = let e : at + 0 ≡ at = omega arith in rw e refl
sets_append (u ∷ us) vs l at =
    let e : at + suc (length us) ≡ suc at + length us = omega arith in
    rw e (sets_append us vs (set l at u) (suc at))

pub puts_then : (l m n : List ℕ) (at r s : ℕ) (us vs : List ℕ) → Puts l at us r m → Puts m r vs s n → Puts l at (us ++ vs) s n
puts_then l m n at r s us vs f g =
    record {
      behind = let long = length-append us vs in let a = f.behind in let b = g.behind in omega arith;
      stands = g.stands ∙ rw (f.behind, f.stands) (sym (sets_append us vs l at));
    }

-- ---- the elements of a list, one after the other
module _ {A : Type 0} (f : A → List ℕ) where
  each_next : (xs : List A) (i : ℕ) (d : A) → i < length xs → each f (take (suc i) xs) ≡ each f (take i xs) ++ f (get_or xs i d)
  unfolding each
  each_next [] i d h = absurd (omega arith)
  each_next (x ∷ t) ℕ.zero d h = append-nil (f x)
  each_next (x ∷ t) (suc i) d h =
      rw (each_next t i d (omega arith)) (sym (append_assoc (f x) (each f (take i t)) (f (get_or t i d))))

  module _ (xs : List A) (l : List ℕ) (at : ℕ) where
    pub puts-next : (i : ℕ) (d : A) (m n : List ℕ) (r s : ℕ) → i < length xs → Puts l at (each f (take i xs)) r m → Puts m r (f (get_or xs i d)) s n
        → Puts l at (each f (take (i + 1) xs)) s n
    puts-next i d m n r s h p q = rw (add-one i, each_next xs i d h) (puts_then l m n at r s (each f (take i xs)) (f (get_or xs i d)) p q)

    pub puts-all : (i : ℕ) (m : List ℕ) (r : ℕ) → length xs ≤ i → Puts l at (each f (take i xs)) r m → Puts l at (each f xs) r m
    puts-all i m r h p = rw (take_all i xs h) at p

-- ---- rows
each_append : {A : Type 0} (f : A → List ℕ) (xs ys : List A) → each f (xs ++ ys) ≡ each f xs ++ each f ys
unfolding each
each_append f [] ys = refl
each_append f (x ∷ t) ys = rw (each_append f t ys) (sym (append_assoc (f x) (each f t) (each f ys)))

pub puts-last : {a b : List ℕ} {at r : ℕ} (l : List ℕ) (row : Row) → Puts a at (row_words l row) r b → Puts a at (rows_words l (row ∷ [])) r b
unfolding each
puts-last l row p = rw (append-nil (row_words l row)) p

module _ (l : List ℕ) {a b c : List ℕ} {at r s : ℕ} where
  pub puts-row : (row : Row) (rows : List Row) → Puts a at (row_words l row) r b → Puts b r (rows_words l rows) s c
      → Puts a at (rows_words l (row ∷ rows)) s c
  unfolding each
  puts-row row rows p q = puts_then a b c at r s (row_words l row) (rows_words l rows) p q

  pub puts-both : (xs ys : List Row) → Puts a at (rows_words l xs) r b → Puts b r (rows_words l ys) s c → Puts a at (rows_words l (xs ++ ys)) s c
  puts-both xs ys p q = rw (each_append (row_words l) xs ys) (puts_then a b c at r s (rows_words l xs) (rows_words l ys) p q)

pub character_two : (l : List ℕ) (column : ℕ) (c : Character) → length (character_words l column c) ≤ 2
character_two l column (At place) = omega arith
character_two l column Unreached = omega arith
character_two l column Absent = omega arith

pub row-two : (l : List ℕ) (row : Row) → length (row_words l row) ≤ 2
unfolding row_words
row-two l row = go row.1
  where
    go : (v : Value) → length (value_words l row.0 v) ≤ 2
    go (Unsigned n) = omega arith
    go (Signed n) = omega arith
    go (Real x places) = omega arith
    go (Factor x) = omega arith
    go (Words t) = omega arith
    go (One c) = character_two l row.0 c
    go (Flag b) = omega arith
    go Nothing = omega arith

-- ---- how many there are
pub two-more : {m n ws : List ℕ} (at i r s : ℕ) → Puts m r ws s n → length ws ≤ 2 → r ≤ at + 2 * i → s ≤ at + 2 * (i + 1)
two-more at i r s p few h = let far = p.behind in omega arith

pub fields-padded : (l : List ℕ) (item : LexItem) → rows_words l (padded 16 (fields_of item)) ≡ rows_words l (fields_of item)
unfolding row_words
fields-padded l item = each-padded (row_words l) refl 16 (fields_of item) (rows_sixteen item)

most : (l : List ℕ) (rows : List Row) → length (rows_words l rows) ≤ 2 * length rows
unfolding each
most l [] = omega arith
most l (r ∷ t) = let two = row-two l r in let ih = most l t in simp length-append (omega arith)

pub puts-most : {a b : List ℕ} {at r : ℕ} (l : List ℕ) (rows : List Row) (n : ℕ) → length rows ≡ n → Puts a at (rows_words l rows) r b → r ≤ at + 2 * n
puts-most l rows n e p = let far = p.behind in let few = most l rows in omega arith

pub rows-most : (l : List ℕ) (item : LexItem) → length (rows_words l (fields_of item)) ≤ 32
rows-most l item = let n = most l (fields_of item) in let k = rows_sixteen item in omega arith

-- ---- at the front
pub front-two : (l m ws : List ℕ) (r k : ℕ) → 2 + length ws ≤ length l → Puts l 2 ws r m
    → set (set m 0 k) 1 ((r - 2) / 2) ≡ (k ∷ length ws / 2 ∷ ws) ++ drop (suc (suc (length ws))) l
front-two [] m ws r k h p = absurd (omega arith)
front-two (a ∷ []) m ws r k h p = absurd (omega arith)
front-two (a ∷ b ∷ t) m ws r k h p =
    let n : r - 2 ≡ length ws = (let far = p.behind in omega arith) in
    let e : 2 + length ws ≡ suc (suc (length ws)) = omega arith in
    rw (p.stands, sets-eq ws (a ∷ b ∷ t) 2 h, n, e) refl

-- ---- what is left
pub fills-few : (before words : List ℕ) → length before < 34 → Fills before words before
fills-few before words h = record { leaves = rw (lt-ltb (length before) 34 h) refl }

pub fills : (before words after : List ℕ) → 34 ≤ length before → after ≡ over words before → Fills before words after
fills before words after h e = record { leaves = rw (le-ltb (length before) 34 h) e }

pub fills_one : {before words after other : List ℕ} → Fills before words after → Fills before words other → after ≡ other
fills_one a b = a.leaves ∙ sym b.leaves

-- ---- beside the listing
two-words : (l : List ℕ) (column : ℕ) (v : Value) → length (value_words l column v) ≡ cond (present v) 2 0
two-words l column (Unsigned n) = refl
two-words l column (Signed n) = refl
two-words l column (Real x places) = refl
two-words l column (Factor x) = refl
two-words l column (Words t) = refl
two-words l column (One (At place)) = refl
two-words l column (One Unreached) = refl
two-words l column (One Absent) = refl
two-words l column (Flag b) = refl
two-words l column Nothing = refl

pub words-listed : (l : List ℕ) (row : Row) → length (row_words l row) ≡ cond (present row.1) 2 0
unfolding row_words
words-listed l row = two-words l row.0 row.1
