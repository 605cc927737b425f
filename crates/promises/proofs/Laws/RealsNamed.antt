-- The faults of a table that name columns are those of the entries that can name them. Whether an entry can is seen without the line.
--     may                                   whether an entry can give a fault that names the columns
--     chosen, chosen-named                  the entries that pass a test; those that may name the columns give all the faults that do
--     none_named, own-named                 how many of no faults name the columns, and of one that stands there
-- Assumes nothing.
use Prim.Native.Nat.{ℕ, suc, ◌+◌, ◌-◌}
use mathlib.Core.Path.{◌≡◌, refl}
use mathlib.Core.Bool.{Bool, true, false, cond, ◌&&◌}
use mathlib.Core.List.{List, [], ◌∷◌, ◌++◌}
use native.Mathlib.Omega.{arith}
use borrow.Author.Tests.{eq-eqb}
use lib.ListN.{length, get_or}
use lib.Dec.{ltb, eqb}
use Rattle.number.specs.Whole.{digit, unsigned_of, signed_of}
use Rattle.real.specs.Real.{ten_thousandths_of}
use Rattle.real.specs.Wide.{real_with}
use Rattle.line.specs.Columns.{part_of, rest_of}
use Rattle.line.specs.declared.columns.Columns.{Columns}
use Rattle.line.specs.declared.fault.Fault.{Fault}
use Rattle.line.specs.declared.fault.FaultKind.{FaultKind}
use Rattle.line.specs.declared.fault.FaultKind.TheVariants.{Short, NoDigit, NoSign, Unknown}
use Rattle.line.specs.declared.fault.Sort.{Sort}
use Rattle.line.specs.declared.fault.Sort.TheVariants.{Unsigned as USort, Signed as ISort, Real as RSort}
use Rattle.std.specs.Prelude.{is_some}
use Rattle.field.specs.Number.{number_faults, unsigned_from_faults, unsigned_at, fault_at, short_at, wrong_at, rest_columns}
use Rattle.field.specs.Text.{text_faults, character_faults}
use Rattle.field.specs.Charge.{charged, is_sign, charge_faults, charge_faults_of}
use Rattle.field.specs.Remark.{is_known, known_faults}
use Rattle.line.specs.Given.{Given}
use Rattle.field.specs.Table.{Entry, faults_by, table_faults}
use Rattle.field.specs.Table.Entry.{u, i, r, t, c, c?, a, u-rest, x, t_within, t-rest, t-end, charge, known, given, unwritten, triples}
use Rattle.promises.specs.Reals.{names, named_by}

-- ---- the entries that can
abbrev same : Columns → Columns → Bool
same at columns = names at (short_at columns)

-- a fault of a C or of the charge has length 1
abbrev single : Columns → Bool
single at = eqb 1 (at.end - at.start)

-- a fault of a number up to the line's end starts where the number does
abbrev pub may : Columns → Entry → Bool
may at (u columns) = same at columns
may at (i columns) = same at columns
may at (r columns default) = same at columns
may at (t columns) = same at columns
may at (c columns) = single at
may at (c? columns) = single at
may at (a columns) = same at columns
may at (u-rest start) = eqb start at.start
may at (x columns) = false
may at (t_within columns) = false
may at (t-rest start) = false
may at (t-end start) = false
may at (charge columns) = single at
may at (known columns) = same at columns
may at (given column) = false
may at (unwritten column) = false
may at (triples start) = false

-- ---- an entry that can't gives no fault that does
no_second : (a b : Bool) → b ≡ false → a && b ≡ false
no_second true b e = e
no_second false b e = refl

module _ (at : Columns) where
  pub none_named : named_by at [] ≡ 0
  unfolding named_by
  none_named = refl

  pub own-named : (kind : FaultKind) → named_by at (fault_at kind at ∷ []) ≡ 1
  unfolding named_by
  own-named kind = rw (eq-eqb at.start at.start refl, eq-eqb (at.end - at.start) (at.end - at.start) refl) refl

  -- one fault or others, and none or one
  either-clear : (b : Bool) (f : Fault) (fs : List Fault) → names at f ≡ false → named_by at fs ≡ 0 → named_by at (cond b (f ∷ []) fs) ≡ 0
  unfolding named_by
  either-clear true f fs e h = rw e refl
  either-clear false f fs e h = h

  unless-clear : (b : Bool) (f : Fault) → names at f ≡ false → named_by at (cond b [] (f ∷ [])) ≡ 0
  unfolding named_by
  unless-clear true f e = refl
  unless-clear false f e = rw e refl

  single-clear : (b : Bool) (kind : FaultKind) (place : ℕ) → single at ≡ false
      → named_by at (cond b [] (record { kind = kind; place = place; length = 1 } ∷ [])) ≡ 0
  single-clear b kind place e =
      unless-clear b (record { kind = kind; place = place; length = 1 }) (no_second (eqb place at.start) (single at) e)

  number-clear : (l : List ℕ) (columns : Columns) (sort : Sort) (fine : Bool) → same at columns ≡ false
      → named_by at (number_faults l columns sort fine) ≡ 0
  unfolding number_faults
  number-clear l columns sort fine e =
      let wrong = wrong_at sort columns in
      either-clear (ltb (length l) columns.end) (short_at columns) (cond fine [] (wrong ∷ [])) e (unless-clear fine wrong e)

  character_clear : (l : List ℕ) (column : ℕ) → single at ≡ false → named_by at (character_faults l column) ≡ 0
  unfolding character_faults
  character_clear l column e = single-clear (ltb column (length l)) Short column e

  charge-clear : (l : List ℕ) (columns : Columns) → single at ≡ false → named_by at (charge_faults l columns) ≡ 0
  unfolding charge_faults charge_faults_of
  charge-clear l columns e = go (charged (part_of l columns)) (digit (get_or (part_of l columns) 0 0)) (is_sign (get_or (part_of l columns) 1 0))
    where
      go : (some digit sign : Bool)
          → named_by at
          (cond some
          (cond digit
          (cond sign [] (record { kind = NoSign; place = columns.start + 1; length = 1 } ∷ []))
          (record { kind = NoDigit; place = columns.start; length = 1 } ∷ []))
          [])
          ≡ 0
      go false digit sign = none_named
      go true true sign = single-clear sign NoSign (columns.start + 1) e
      go true false sign = single-clear false NoDigit columns.start e

  entry_clear : (g : Given) (entry : Entry) → may at entry ≡ false → named_by at (faults_by g entry) ≡ 0
  unfolding text_faults unsigned_from_faults known_faults
  entry_clear g (u columns) e = number-clear g.line columns USort (is_some (unsigned_of (part_of g.line columns))) e
  entry_clear g (i columns) e = number-clear g.line columns ISort (is_some (signed_of (part_of g.line columns))) e
  entry_clear g (r columns default) e = number-clear g.line columns RSort (is_some (real_with g.options.exponents (part_of g.line columns))) e
  entry_clear g (t columns) e = either-clear (ltb (length g.line) columns.end) (short_at columns) [] e none_named
  entry_clear g (c columns) e = character_clear g.line columns.start e
  entry_clear g (c? columns) e = character_clear g.line columns.start e
  entry_clear g (a columns) e = number-clear g.line columns ISort (is_some (ten_thousandths_of (part_of g.line columns))) e
  entry_clear g (u-rest start) e =
      unless-clear (is_some (unsigned_of (rest_of g.line start))) (wrong_at USort (rest_columns g.line start)) (rw e refl)
  entry_clear g (x columns) e = none_named
  entry_clear g (t_within columns) e = none_named
  entry_clear g (t-rest start) e = none_named
  entry_clear g (t-end start) e = none_named
  entry_clear g (charge columns) e = charge-clear g.line columns e
  entry_clear g (known columns) e =
      unless-clear (is_known g.remarks (unsigned_at g.line columns)) (fault_at Unknown columns) e
  entry_clear g (given column) e = none_named
  entry_clear g (unwritten column) e = none_named
  entry_clear g (triples start) e = none_named

  named-append : (fs gs : List Fault) → named_by at (fs ++ gs) ≡ named_by at fs + named_by at gs
  unfolding named_by
  named-append [] gs = omega arith
  named-append (f ∷ fs) gs = go (names at f) (named-append fs gs)
    where
      go : (b : Bool) → named_by at (fs ++ gs) ≡ named_by at fs + named_by at gs
          → cond b (suc (named_by at (fs ++ gs))) (named_by at (fs ++ gs)) ≡ cond b (suc (named_by at fs)) (named_by at fs) + named_by at gs
      go true h = omega arith
      go false h = omega arith

-- ---- a table
abbrev pub chosen : (Entry → Bool) → List Entry → List Entry
chosen test [] = []
chosen test (e ∷ rest) = cond (test e) (e ∷ chosen test rest) (chosen test rest)

pub chosen-named : (at : Columns) (g : Given) (es : List Entry)
    → named_by at (table_faults g es) ≡ named_by at (table_faults g (chosen (may at) es))
chosen-named at g [] = refl
chosen-named at g (e ∷ rest) = go (may at e) refl (chosen-named at g rest)
  where
    others : List Entry
    others = chosen (may at) rest

    go : (b : Bool) → may at e ≡ b → named_by at (table_faults g rest) ≡ named_by at (table_faults g others)
        → named_by at (faults_by g e ++ table_faults g rest) ≡ named_by at (table_faults g (cond b (e ∷ others) others))
    go true m h = simp (named-append at, h)
    go false m h = rw (named-append at (faults_by g e) (table_faults g rest), entry_clear at g e m) (omega arith)
