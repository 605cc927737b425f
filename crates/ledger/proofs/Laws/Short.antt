-- The summary fits: in 4,096 bytes, and on a screen.
--     summary-short      no more bytes
--     summary-fits       at most 21 LFs
-- Assumes nothing.
use Prim.Native.Nat.{ℕ, zero, suc, ◌+◌, ◌*◌, ◌/◌, ◌%◌, ◌≤◌}
use mathlib.Core.Path.{◌≡◌, refl}
use mathlib.Core.Bool.{Bool, true, false, cond, not, ◌&&◌}
use mathlib.Core.List.{List, [], ◌∷◌, ◌++◌}
use native.Mathlib.Omega.{arith}
use borrow.Author.Tests.{ne_eqb}
use lib.Dec.{T, eqb, ltb, lit≤}
use lib.ListN.{length, length-append}
use Rattle.line.specs.Bytes.{bytes}
use Rattle.names.specs.Names.{is_word, group_name}
use Rattle.names.proofs.Laws.Names.{group-short, group-word}
use Rattle.page.specs.Numerals.{decimal, decimal_before}
use Rattle.ledger.specs.Ledger.{word}
use Rattle.ledger.specs.Summary.{counted, unread, whole, verdict, cut_hint, off_hint, cr_hint, hints, first_line, places, group_row, group_rows, summary}

-- ---- a text of at most n bytes and m LFs
abbrev pub feeds : List ℕ → ℕ
feeds [] = 0
feeds (b ∷ t) = cond (eqb b 10) (suc (feeds t)) (feeds t)

record Fits (n m : ℕ) (t : List ℕ) : Type 0 where
  short : length t ≤ n
  few : feeds t ≤ m

feeds-append : (s t : List ℕ) → feeds (s ++ t) ≡ feeds s + feeds t
feeds-append [] t = omega arith
feeds-append (b ∷ s) t = go (eqb b 10) (feeds-append s t)
  where
    go : (c : Bool) → feeds (s ++ t) ≡ feeds s + feeds t → cond c (suc (feeds (s ++ t))) (feeds (s ++ t)) ≡ cond c (suc (feeds s)) (feeds s) + feeds t
    go true e = omega arith
    go false e = e

both : (n m k l : ℕ) (s t : List ℕ) → Fits n m s → Fits k l t → Fits (n + k) (m + l) (s ++ t)
both n m k l s t f g =
    let a = f.short in
    let b = g.short in
    let c = f.few in
    let d = g.few in
    record { short = omega (arith, length-append s t); few = omega (arith, feeds-append s t) }

either : (n m : ℕ) (b : Bool) (s t : List ℕ) → Fits n m s → Fits n m t → Fits n m (cond b s t)
either n m true s t f g = f
either n m false s t f g = g

wider : (n m k l : ℕ) (t : List ℕ) → n ≤ k → m ≤ l → Fits n m t → Fits k l t
wider n m k l t a b f = let c = f.short in let d = f.few in record { short = omega arith; few = omega arith }

none : (n m : ℕ) → Fits n m []
none n m = record { short = omega arith; few = omega arith }

-- ---- a number
-- a digit is no LF
digit-fits : (d : ℕ) (t : List ℕ) (j : ℕ) → Fits j 0 t → Fits (suc j) 0 ((48 + d) ∷ t)
digit-fits d t j f =
    let a = f.short in
    record { short = omega arith; few = rw (ne_eqb (48 + d) 10 (λ z. omega arith)) f.few }

before-fits : (k n : ℕ) (t : List ℕ) (j : ℕ) → Fits j 0 t → Fits (k + j) 0 (decimal_before k n t)
unfolding decimal_before
before-fits zero n t j f = wider j 0 (0 + j) 0 t (omega arith) (omega arith) f
before-fits (suc k) n t j f =
    let r = before-fits k (n / 10) ((48 + n % 10) ∷ t) (suc j) (digit-fits (n % 10) t j f) in
    either (suc k + j) 0 (ltb n 10) ((48 + n) ∷ t) (decimal_before k (n / 10) ((48 + n % 10) ∷ t))
    (wider (suc j) 0 (suc k + j) 0 _ (omega arith) (omega arith) (digit-fits n t j f))
    (wider (k + suc j) 0 (suc k + j) 0 _ (omega arith) (omega arith) r)

number : (n : ℕ) → Fits 20 0 (decimal n)
unfolding decimal
number n = before-fits 20 n [] 0 (none 0 0)

-- ---- a group's name
word-feeds : (t : List ℕ) → T (is_word t) → feeds t ≡ 0
word-feeds [] h = refl
word-feeds (b ∷ t) h = go (eqb b 10) h (word-feeds t)
  where
    go : (c : Bool) → T (not c && is_word t) → (T (is_word t) → feeds t ≡ 0) → cond c (suc (feeds t)) (feeds t) ≡ 0
    go true k e = absurd k
    go false k e = e k

name-fits : (g : ℕ) → Fits 32 0 (group_name g)
name-fits g = record { short = group-short g; few = omega (arith, word-feeds (group_name g) (group-word g)) }

-- ---- the first line
counted-fits : (n : ℕ) (z s t : List ℕ) → Fits 60 0 z → Fits 60 0 s → Fits 40 0 t → Fits 60 0 (counted n z s t)
unfolding counted
counted-fits n z s t f g h =
    either 60 0 (eqb n 0) z _ f (either 60 0 (eqb n 1) s (decimal n ++ t) g (both 20 0 40 0 (decimal n) t (number n) h))

unread-fits : (n m : ℕ) → Fits 160 0 (unread n m)
unfolding unread
unread-fits n m =
    both 121 0 39 0 _ (bytes " Columns are counted from 1.")
    (both 61 0 60 0 _ _
    (both 60 0 1 0 _ (bytes " ")
    (counted-fits n (bytes "no line has fields that were not read.") (bytes "1 has fields that were not read.") (bytes " have fields that were not read.")
    (record { short = lit≤ tt; few = lit≤ tt }) (record { short = lit≤ tt; few = lit≤ tt }) (record { short = lit≤ tt; few = lit≤ tt }))
    (record { short = lit≤ tt; few = lit≤ tt }))
    (counted-fits m (bytes "No line was refused.") (bytes "1 line was refused.") (bytes " lines were refused.")
    (record { short = lit≤ tt; few = lit≤ tt }) (record { short = lit≤ tt; few = lit≤ tt }) (record { short = lit≤ tt; few = lit≤ tt })))
    (record { short = lit≤ tt; few = lit≤ tt })

verdict-fits : (k n m : ℕ) → Fits 160 0 (verdict k n m)
unfolding verdict whole
verdict-fits k n m =
    either 160 0 (eqb n 0 && eqb m 0) _ _
    (either 160 0 (eqb k 0) (bytes "none is a record of a PDB file, so nothing was read.") (bytes "every number that was looked for was read.")
    (record { short = lit≤ tt; few = lit≤ tt }) (record { short = lit≤ tt; few = lit≤ tt }))
    (unread-fits n m)

cut_fits : (c a e : ℕ) → Fits 100 0 (cut_hint c a e)
unfolding cut_hint
cut_fits c a e =
    either 100 0 (eqb c 0) _ (bytes " The last line is cut: most likely the file was not saved whole.")
    (either 100 0 (not (eqb a 0) && eqb e 0) (bytes " There is no END line: lines may be missing at the end.") []
    (record { short = lit≤ tt; few = lit≤ tt }) (none 100 0))
    (record { short = lit≤ tt; few = lit≤ tt })

off-fits : (a o : ℕ) → Fits 100 0 (off_hint a o)
unfolding off_hint
off-fits a o =
    either 100 0 (not (eqb a 0) && eqb a o)
    (bytes " In every ATOM and HETATM line y or z was not read: most likely the columns are shifted.") []
    (record { short = lit≤ tt; few = lit≤ tt }) (none 100 0)

cr-fits : (c : ℕ) → Fits 100 0 (cr_hint c)
unfolding cr_hint
cr-fits c =
    either 100 0 (not (eqb c 0)) (bytes " A line has a CR inside it: most likely the lines end with CR alone.") []
    (record { short = lit≤ tt; few = lit≤ tt }) (none 100 0)

first_fits : (ws : List ℕ) → Fits 521 1 (first_line ws)
unfolding first_line hints
first_fits ws =
    both 520 0 1 1 _ (bytes "\n")
    (both 220 0 300 0 _ _
    (both 60 0 160 0 _ _
    (counted-fits (word ws 0) [] (bytes "1 line; ") (bytes " lines; ") (none 60 0)
    (record { short = lit≤ tt; few = lit≤ tt }) (record { short = lit≤ tt; few = lit≤ tt }))
    (verdict-fits (word ws 1) (word ws 2) (word ws 3)))
    (both 200 0 100 0 _ _
    (both 100 0 100 0 _ _ (cut_fits (word ws 7) (word ws 4) (word ws 6)) (off-fits (word ws 4) (word ws 5)))
    (cr-fits (word ws 8))))
    (record { short = lit≤ tt; few = lit≤ tt })

-- ---- the rows
places-fits : (n a b : ℕ) → Fits 100 0 (places n a b)
unfolding places
places-fits n a b =
    either 100 0 (eqb n 1) (bytes ": 1, in line " ++ decimal a) _
    (both 80 0 20 0 (bytes ": 1, in line ") (decimal a) (record { short = lit≤ tt; few = lit≤ tt }) (number a))
    (both 80 0 20 0 _ (decimal b)
    (both 60 0 20 0 _ (bytes ", last in line ")
    (both 40 0 20 0 _ (decimal a)
    (both 22 0 18 0 _ (bytes ", first in line ")
    (both 2 0 20 0 (bytes ": ") (decimal n) (record { short = lit≤ tt; few = lit≤ tt }) (number n))
    (record { short = lit≤ tt; few = lit≤ tt }))
    (number a))
    (record { short = lit≤ tt; few = lit≤ tt }))
    (number b))

row_fits : (ws : List ℕ) (g : ℕ) → Fits 137 1 (group_row ws g)
unfolding group_row
row_fits ws g =
    either 137 1 (eqb (word ws (9 + 3 * g)) 0) [] _ (none 137 1)
    (both 136 0 1 1 _ (bytes "\n")
    (both 36 0 100 0 _ _
    (both 4 0 32 0 (bytes "    ") (group_name g) (record { short = lit≤ tt; few = lit≤ tt }) (name-fits g))
    (places-fits (word ws (9 + 3 * g)) (word ws (10 + 3 * g)) (word ws (11 + 3 * g))))
    (record { short = lit≤ tt; few = lit≤ tt }))

rows_fit : (ws : List ℕ) (g n : ℕ) → Fits (137 * n) n (group_rows ws g n)
unfolding group_rows
rows_fit ws g zero = none (137 * 0) 0
rows_fit ws g (suc n) =
    wider (137 + 137 * n) (1 + n) (137 * suc n) (suc n) _ (omega arith) (omega arith)
    (both 137 1 (137 * n) n (group_row ws g) (group_rows ws (suc g) n) (row_fits ws g) (rows_fit ws (suc g) n))

-- ---- the whole
all-fits : (ws : List ℕ) → Fits 4096 21 (summary ws)
unfolding summary
all-fits ws =
    either 4096 21 (eqb (word ws 0) 0) (bytes "The file is empty.\n") _ (record { short = lit≤ tt; few = lit≤ tt })
    (wider (521 + 137 * 20) (1 + 20) 4096 21 _ (omega arith) (omega arith)
    (both 521 1 (137 * 20) 20 (first_line ws) (group_rows ws 0 20) (first_fits ws) (rows_fit ws 0 20)))

pub summary-short : (ws : List ℕ) → length (summary ws) ≤ 4096
summary-short ws = (all-fits ws).short

pub summary-fits : (ws : List ℕ) → feeds (summary ws) ≤ 21
summary-fits ws = (all-fits ws).few
