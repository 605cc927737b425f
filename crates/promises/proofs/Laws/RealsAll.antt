-- Demand 3 forgets no real, and speaks of none that isn't there.
--     decimals-shown, factors_shown    a record shows each R of its line's table, and each of ANISOU's six, in the first of its columns
--     decimals-all, factors_all        and each such number that a record shows is a real field of demand 3
-- Assumes nothing.
use Prim.Native.Nat.{ℕ, suc, ◌+◌}
use mathlib.Core.Path.{◌≡◌, refl, sym, ap}
use mathlib.Core.Logic.{◌⊎◌, inl, inr, ⊎_elim}
use mathlib.Core.Bool.{Bool, true, false, cond}
use mathlib.Core.List.{List, [], ◌∷◌, Memᴰ}
use Rattle.std.specs.Prelude.{Ok}
use native.Mathlib.Omega.{arith}
use lib.Dec.{ltb}
use lib.Ieee.{Float}
use Rattle.number.specs.Whole.{signed_of}
use Rattle.real.specs.Wide.{said_with, scale_with}
use Rattle.line.specs.Columns.{part_of}
use Rattle.line.specs.Given.{Given}
use Rattle.line.specs.declared.columns.Columns.{Columns}
use Rattle.field.specs.Number.{real_at, places_at, factor_at, zero_real}
use Rattle.field.specs.Table.{Entry}
use Rattle.field.specs.Table.Entry.{u, i, r, t, c, c?, a, u-rest, x, t_within, t-rest, t-end, charge, known, given, unwritten, triples}
use Rattle.seqres.specs.Seqres.{triple_text, triples_from, triple_row, triple_rows}
use Rattle.row.specs.Rows.{◌is◌}
use Rattle.row.specs.declared.Row.{Row}
use Rattle.row.specs.declared.Value.{Value}
use Rattle.row.specs.declared.Value.TheVariants.{Unsigned, Signed, Real, Factor, Words, One, Flag, Nothing}
use Rattle.lexitem.specs.Describe.{fields_of}
use Rattle.lexitem.specs.Shown.{shown, shown_by, insert, sorted, keep, held}
use Rattle.lexitem.specs.declared.item.LexItem.{LexItem}
use Rattle.lexer.specs.Lexed.{lexed}
use Rattle.lexer.specs.Refusals as refusals
use Rattle.lexer.specs.Refusals.{Input}
use Rattle.promises.specs.Reals.{RealField, RealIn, table_in, on_in, in_ten_thousandths}
use Rattle.promises.proofs.Laws.Fields.{record-shown, row_there, held-has, held_in}

-- ---- what an entry shows
-- whether a value is a real: an R's, or one of ANISOU's six
abbrev sort_of : Value → ℕ
sort_of (Unsigned n) = 0
sort_of (Signed n) = 0
sort_of (Real y places) = 1
sort_of (Factor y) = 2
sort_of (Words text) = 0
sort_of (One character) = 0
sort_of (Flag b) = 0
sort_of Nothing = 0

-- the row is no real, or the entry is an R and the row shows it, or so of the six
abbrev OfDecimal : Entry → Row → Type 0
OfDecimal e row = (at : Columns) × (default : Float) × (y : Float) × (n : ℕ) × (e ≡ r at default) × (row ≡ at.start is Real y n)

abbrev OfFactor : Entry → Row → Type 0
OfFactor e row = (at : Columns) × (y : Float) × (e ≡ a at) × (row ≡ at.start is Factor y)

abbrev Shows : Entry → Row → Type 0
Shows e row = (sort_of row.1 ≡ 0) ⊎ (OfDecimal e row ⊎ OfFactor e row)

no-real : (e : Entry) (row : Row) (column : ℕ) (v : Value) → sort_of v ≡ 0 → Memᴰ row (column is v ∷ []) → Shows e row
no-real e row column v none m = inl (rw (mathlib.Core.List.Memᴰ.eq_of_singleton m) none)

triples_none : (k index count : ℕ) (row : Row) → Memᴰ row (triple_rows k index count) → sort_of row.1 ≡ 0
unfolding triple_row
triples_none ℕ.zero index count row m = absurd (mathlib.Core.List.Memᴰ.not-nil m)
triples_none (suc k) index count row m =
    ⊎_elim (λ same. rw same (one (ltb index count))) (triples_none k (index + 1) count row) (mathlib.Core.List.Memᴰ.cases_cons m)
  where
    one : (b : Bool) → sort_of (cond {A = Value} b (Words (triple_text index)) Nothing) ≡ 0
    one true = refl
    one false = refl

module _ (g : Given) (row : Row) where
  entry_shows : (e : Entry) → Memᴰ row (shown_by g e) → Shows e row
  entry_shows (u at) m = no-real (u at) row _ _ refl m
  entry_shows (i at) m = no-real (i at) row _ _ refl m
  entry_shows (r at default) m =
      inr (inl (at, default, real_at g.options.exponents g.line at default, places_at g.options.exponents g.line at, refl, mathlib.Core.List.Memᴰ.eq_of_singleton m))
  entry_shows (t at) m = no-real (t at) row _ _ refl m
  entry_shows (c at) m = no-real (c at) row _ _ refl m
  entry_shows (c? at) m = no-real (c? at) row _ _ refl m
  entry_shows (a at) m = inr (inr (at, factor_at g.line at, refl, mathlib.Core.List.Memᴰ.eq_of_singleton m))
  entry_shows (u-rest start) m = no-real (u-rest start) row _ _ refl m
  entry_shows (x at) m = no-real (x at) row _ _ refl m
  entry_shows (t_within at) m = no-real (t_within at) row _ _ refl m
  entry_shows (t-rest start) m = no-real (t-rest start) row _ _ refl m
  entry_shows (t-end start) m = no-real (t-end start) row _ _ refl m
  entry_shows (charge at) m = no-real (charge at) row _ _ refl m
  entry_shows (known at) m = absurd (mathlib.Core.List.Memᴰ.not-nil m)
  entry_shows (given column) m = no-real (given column) row _ _ refl m
  entry_shows (unwritten column) m = no-real (unwritten column) row _ _ refl m
  entry_shows (triples start) m = inl (triples_none 13 0 (triples_from 13 start g.line) row m)

  shown_in : (es : List Entry) → Memᴰ row (shown g es) → (e : Entry) × Memᴰ e es × Shows e row
  shown_in [] m = absurd (mathlib.Core.List.Memᴰ.not-nil m)
  shown_in (e ∷ es) m =
      ⊎_elim
      (λ here. (e, mathlib.Core.List.Memᴰ.head refl, entry_shows e here))
      (λ there. let (y, k, shows) = shown_in es there in (y, mathlib.Core.List.Memᴰ.tail k, shows))
      (mathlib.Core.List.Memᴰ.append_cases (shown_by g e) m)

module _ (row : Row) where
  insert_in : (y : Row) (rows : List Row) → Memᴰ row (insert y rows) → Memᴰ row (y ∷ rows)
  insert_in y [] m = m
  insert_in y (z ∷ rest) m = go (ltb z.0 y.0) (insert_in y rest) m
    where
      go : (b : Bool) → (Memᴰ row (insert y rest) → Memᴰ row (y ∷ rest)) → Memᴰ row (cond b (z ∷ insert y rest) (y ∷ z ∷ rest))
          → Memᴰ row (y ∷ z ∷ rest)
      go false on m = m
      go true on m =
          ⊎_elim
          (λ same. mathlib.Core.List.Memᴰ.tail (mathlib.Core.List.Memᴰ.head same))
          (λ later. ⊎_elim (λ same. mathlib.Core.List.Memᴰ.head same) (λ more. mathlib.Core.List.Memᴰ.tail (mathlib.Core.List.Memᴰ.tail more)) (mathlib.Core.List.Memᴰ.cases_cons (on later)))
          (mathlib.Core.List.Memᴰ.cases_cons m)

  sorted_in : (rows : List Row) → Memᴰ row (sorted rows) → Memᴰ row rows
  sorted_in [] m = m
  sorted_in (y ∷ rows) m =
      ⊎_elim (λ same. mathlib.Core.List.Memᴰ.head same) (λ later. mathlib.Core.List.Memᴰ.tail (sorted_in rows later)) (mathlib.Core.List.Memᴰ.cases_cons (insert_in y (sorted rows) m))

-- ---- of a record
module _ (n : Input) (item : LexItem) (accepted : (lexed n).outcome ≡ Ok item) where
  pub decimals-shown : (at : Columns) (default : Float) → Memᴰ (r at default) (table_in n)
      → (y : Float) × (places : ℕ) × Memᴰ (at.start is Real y places) (fields_of item)
  decimals-shown at default m =
      let y = real_at (on_in n) n.line at default in
      let places = places_at (on_in n) n.line at in
      (y, places, row_there n item accepted (r at default) m at.start (Real y places) refl (λ rest. refl))

  pub factors_shown : (at : Columns) → Memᴰ (a at) (table_in n) → (y : Float) × Memᴰ (at.start is Factor y) (fields_of item)
  factors_shown at m =
      let y = factor_at n.line at in
      (y, row_there n item accepted (a at) m at.start (Factor y) refl (λ rest. refl))

  row_of : (row : Row) → ((rest : List Row) → keep row.1 row rest ≡ row ∷ rest) → Memᴰ row (fields_of item)
      → (e : Entry) × Memᴰ e (table_in n) × Shows e row
  row_of row keeps m =
      let among : Memᴰ row (held (sorted (shown (refusals.given n) (table_in n)))) =
      rw (record-shown n item accepted).0 at (held-has row keeps (fields_of item) m) in
      shown_in (refusals.given n) row (table_in n)
      (sorted_in row (shown (refusals.given n) (table_in n)) (held_in row (sorted (shown (refusals.given n) (table_in n))) among))

  abbrev Field : ℕ → Float → Type 0
  Field column y = (f : RealField) × RealIn n item f × (f.columns.start ≡ column) × (f.double ≡ y)

  as_decimal : (e : Entry) (column : ℕ) (y : Float) (places : ℕ) → Memᴰ (column is Real y places) (fields_of item) → Memᴰ e (table_in n)
      → OfDecimal e (column is Real y places) → Field column y
  as_decimal e column y places m k (at, default, z, q, entry, row) =
      let start : at.start ≡ column = sym (ap (λ (row : Row). row.0) row) in (
        record { columns = at; written = said_with (on_in n) (part_of n.line at); scale = scale_with (on_in n); double = y; default = default },
        RealIn.decimal at default y places (rw entry at k) (rw start m),
        start,
        refl,
      )

  as_factor : (e : Entry) (column : ℕ) (y : Float) → Memᴰ (column is Factor y) (fields_of item) → Memᴰ e (table_in n)
      → OfFactor e (column is Factor y) → Field column y
  as_factor e column y m k (at, z, entry, row) =
      let start : at.start ≡ column = sym (ap (λ (row : Row). row.0) row) in (
        record { columns = at; written = in_ten_thousandths (signed_of (part_of n.line at)); scale = 82; double = y; default = zero_real },
        RealIn.factor at y (rw entry at k) (rw start m),
        start,
        refl,
      )

  pub decimals-all : (column : ℕ) (y : Float) (places : ℕ) → Memᴰ (column is Real y places) (fields_of item)
      → (f : RealField) × RealIn n item f × (f.columns.start ≡ column) × (f.double ≡ y)
  decimals-all column y places m =
      let (e, k, shows) = row_of (column is Real y places) (λ rest. refl) m in
      ⊎_elim
      (λ none. absurd (omega (arith, none)))
      (⊎_elim
      (as_decimal e column y places m k)
      (λ d. absurd (let z : ◌≡◌ {A = ℕ} 1 2 = ap (λ (row : Row). sort_of row.1) d.3 in omega (arith, z))))
      shows

  pub factors_all : (column : ℕ) (y : Float) → Memᴰ (column is Factor y) (fields_of item)
      → (f : RealField) × RealIn n item f × (f.columns.start ≡ column) × (f.double ≡ y)
  factors_all column y m =
      let (e, k, shows) = row_of (column is Factor y) (λ rest. refl) m in
      ⊎_elim
      (λ none. absurd (omega (arith, none)))
      (⊎_elim
      (λ d. absurd (let z : ◌≡◌ {A = ℕ} 2 1 = ap (λ (row : Row). sort_of row.1) d.5 in omega (arith, z)))
      (as_factor e column y m k))
      shows
