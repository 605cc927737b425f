-- How many faults a table has at most.
--     Ends           a line has n bytes or more, or fewer
--     silent         an entry that then has no fault
--     entry_most     any other has one at most
--     entry_one      so an entry has one at most, whatever the line
--     loud           how many entries of a table aren't silent
--     table-most     so many faults it has at most
-- Assumes nothing.
use Prim.Native.Nat.{ℕ, suc, ◌≤◌, ◌<◌}
use mathlib.Core.Path.{◌≡◌, refl, ap}
use mathlib.Core.Bool.{Bool, true, false, cond, not, ◌&&◌}
use mathlib.Core.List.{List, [], ◌∷◌}
use native.Mathlib.Omega.{arith}
use borrow.Author.Tests.{leb-true, lt-ltb, le-ltb}
use Rattle.std.specs.Prelude.{is_some}
use lib.ListN.{length, length-append}
use lib.Dec.{leb, lit≤}
use Rattle.number.specs.Whole.{unsigned_of}
use Rattle.line.specs.Columns.{rest_of}
use Rattle.line.specs.Given.{Given}
use Rattle.line.specs.declared.columns.Columns.{Columns}
use Rattle.line.specs.declared.fault.Fault.{Fault}
use Rattle.line.specs.declared.fault.FaultKind.TheVariants.{Unknown}
use Rattle.line.specs.declared.fault.Sort.{Sort}
use Rattle.line.specs.declared.fault.Sort.TheVariants.{Unsigned}
use Rattle.field.specs.Found.{is_fine}
use Rattle.field.specs.Number.{fault_at, wrong_at, number_fault, number_faults, unsigned_at, rest_columns, unsigned_from_faults}
use Rattle.field.specs.Text.{text_faults, character_faults, unreached}
use Rattle.field.specs.Charge.{charged, charge_faults}
use Rattle.field.specs.Remark.{is_known, known_faults}
use Rattle.field.specs.Table.{Entry, faults_by, table_faults}
use Rattle.field.specs.Table.Entry.{u, i, r, t, c, c?, a, u-rest, x, t_within, t-rest, t-end, charge, known, given, unwritten, triples}
use Rattle.field.proofs.Laws.Fields.{part-short}
use Rattle.field.proofs.Laws.Fine.{number-one, text-one, character_one, charge-one}

abbrev pub Ends : ℕ → Bool → List ℕ → Type 0
Ends n true l = n ≤ length l
Ends n false l = length l < n

-- a text faults only in a line that ends before it does, and a charge only in one that doesn't
abbrev pub silent : ℕ → Bool → Entry → Bool
silent n long (u at) = false
silent n long (i at) = false
silent n long (r at default) = false
silent n long (t at) = long && leb at.end n
silent n long (c at) = false
silent n long (c? at) = false
silent n long (a at) = false
silent n long (u-rest start) = false
silent n long (x at) = true
silent n long (t_within at) = true
silent n long (t-rest start) = true
silent n long (t-end start) = true
silent n long (charge at) = not long && leb n at.end
silent n long (known at) = false
silent n long (given column) = true
silent n long (unwritten column) = true
silent n long (triples start) = true

-- ---- one fault a field
one-most : (fs : List Fault) (f : Fault) → (is_fine fs ≡ false → fs ≡ f ∷ []) → length fs ≤ 1
one-most [] f h = lit≤ tt
one-most (g ∷ rest) f h = omega (arith, ap length (h refl))

choice_most : (b : Bool) (f : Fault) → length (cond b [] (f ∷ [])) ≤ 1
choice_most true f = lit≤ tt
choice_most false f = lit≤ tt

number-most : (l : List ℕ) (at : Columns) (sort : Sort) (ok : Bool) → length (number_faults l at sort ok) ≤ 1
number-most l at sort ok = one-most (number_faults l at sort ok) (number_fault l at sort) (number-one l at sort ok)

character_most : (l : List ℕ) (column : ℕ) → length (character_faults l column) ≤ 1
character_most l column = one-most (character_faults l column) (unreached column) (character_one l column)

-- ---- and none where the line's length rules it out
unless : (b : Bool) (fs : List Fault) → length fs ≤ 1 → (b ≡ true → fs ≡ []) → length fs ≤ cond b 0 1
unless true fs h none = rw (none refl) (lit≤ tt)
unless false fs h none = h

module _ (n : ℕ) (l : List ℕ) (at : Columns) where
  text-silent : (long : Bool) → Ends n long l → long && leb at.end n ≡ true → text_faults l at ≡ []
  unfolding text_faults
  text-silent true h e = rw (le-ltb (length l) at.end (omega (arith, leb-true at.end n e))) refl
  text-silent false h e = cc

  charge-silent : (long : Bool) → Ends n long l → not long && leb n at.end ≡ true → charge_faults l at ≡ []
  unfolding charge_faults charged
  charge-silent true h e = cc
  charge-silent false h e = rw (part-short l at (lt-ltb (length l) at.end (omega (arith, leb-true n at.end e)))) refl

module _ (n : ℕ) (long : Bool) (g : Given) (h : Ends n long g.line) where
  pub entry_most : (e : Entry) → length (faults_by g e) ≤ cond (silent n long e) 0 1
  unfolding unsigned_from_faults known_faults
  entry_most (u at) = number-most g.line at _ _
  entry_most (i at) = number-most g.line at _ _
  entry_most (r at default) = number-most g.line at _ _
  entry_most (t at) =
      unless (long && leb at.end n) (text_faults g.line at) (one-most (text_faults g.line at) _ (text-one g.line at))
      (text-silent n g.line at long h)
  entry_most (c at) = character_most g.line at.start
  entry_most (c? at) = character_most g.line at.start
  entry_most (a at) = number-most g.line at _ _
  entry_most (u-rest start) = choice_most (is_some (unsigned_of (rest_of g.line start))) (wrong_at Unsigned (rest_columns g.line start))
  entry_most (x at) = lit≤ tt
  entry_most (t_within at) = lit≤ tt
  entry_most (t-rest start) = lit≤ tt
  entry_most (t-end start) = lit≤ tt
  entry_most (charge at) =
      unless (not long && leb n at.end) (charge_faults g.line at)
      (one-most (charge_faults g.line at) _ (charge-one g.line at))
      (charge-silent n g.line at long h)
  entry_most (known at) = choice_most (is_known g.remarks (unsigned_at g.line at)) (fault_at Unknown at)
  entry_most (given column) = lit≤ tt
  entry_most (unwritten column) = lit≤ tt
  entry_most (triples start) = lit≤ tt

pub entry_one : (g : Given) (e : Entry) → length (faults_by g e) ≤ 1
entry_one g e = go (silent 0 true e) (entry_most 0 true g (omega arith) e)
  where
    go : (b : Bool) → length (faults_by g e) ≤ cond b 0 1 → length (faults_by g e) ≤ 1
    go true h = omega arith
    go false h = h

-- ---- of a table
abbrev pub loud : ℕ → Bool → List Entry → ℕ
loud n long [] = 0
loud n long (e ∷ es) = cond (silent n long e) (loud n long es) (suc (loud n long es))

pub table-most : (n : ℕ) (long : Bool) (g : Given) → Ends n long g.line → (es : List Entry)
    → length (table_faults g es) ≤ loud n long es
table-most n long g h [] = lit≤ tt
table-most n long g h (e ∷ es) = go (silent n long e) (entry_most n long g h e) (table-most n long g h es)
  where
    go : (b : Bool) → length (faults_by g e) ≤ cond b 0 1 → length (table_faults g es) ≤ loud n long es
        → length (table_faults g (e ∷ es)) ≤ cond b (loud n long es) (suc (loud n long es))
    go true one rest = omega (arith, length-append (faults_by g e) (table_faults g es))
    go false one rest = omega (arith, length-append (faults_by g e) (table_faults g es))
