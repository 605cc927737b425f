-- Two lines that agree on a field's columns give it the same value and the same faults.
--     on             a line with its options and remark table
--     Level          the lines' lengths are the same to a field
--     level          lines of one length are level to every field
--     Agree          the lines agree on a field's columns
--     Same           the field has the same value in both, whether exponents are taken or not
--     same_entry     lines that agree on a field's columns give it the same value
--     fault_entry    and the same faults
--     AgreeOn, AllSame, same-table, fault-table    so for a table
--     or_left, or_right    one of two is so
-- The laws by entry ask of the lengths only what the field asks, so that they serve lines of unequal length too.
-- Assumes nothing.
use Prim.Native.Nat.{ℕ, zero, suc, ◌+◌, ◌-◌, ◌*◌, ◌<◌, ◌≤◌}
use mathlib.Core.Path.{◌≡◌, refl}
use mathlib.Core.Bool.{Bool, true, false, ◌||◌}
use mathlib.Core.List.{List, [], ◌∷◌}
use native.Mathlib.Omega.{arith}
use borrow.Author.Tests.{eq-eqb}
use lib.ListN.{length, get_or}
use lib.Dec.{ltb, leb}
use Rattle.field.specs.Number.{number_faults, unsigned_at, signed_at, real_at, places_at, factor_at, unsigned_from, unsigned_from_faults}
use Rattle.field.specs.Text.{text_at, text_within, text_from, end_text_from, character_at, optional_at, text_faults, character_faults}
use Rattle.field.specs.Charge.{charge_at, charge_faults}
use Rattle.field.specs.Table.{Entry, faults_by, table_faults}
use Rattle.field.specs.Table.Entry.{u, i, r, t, c, c?, a, u-rest, x, t_within, t-rest, t-end, charge, known, given, unwritten, triples}
use Rattle.line.specs.Columns.{◌⋯◌}
use Rattle.line.specs.Given.{Given}
use Rattle.line.specs.declared.columns.Columns.{Columns}
use Rattle.line.specs.declared.options.Options.{Options}
use Rattle.seqres.specs.Seqres.{blank_triple, triples_from}
use Rattle.margins.specs.Taken.{takes, table_takes, triples_width}
use Rattle.margins.proofs.Laws.Parts.{inside_in, part_same, reached-same, rest-same}

-- a line read with these options and this remark table
abbrev pub on : Options → List ℕ → List ℕ → Given
on options remarks l = record { line = l; options = options; remarks = remarks }

module _ (l m : List ℕ) where
  abbrev Reached : Columns → Type 0
  Reached at = ltb (length l) at.end ≡ ltb (length m) at.end

  abbrev Has : ℕ → Type 0
  Has column = ltb column (length l) ≡ ltb column (length m)

  abbrev pub Level : Entry → Type 0
  Level (u at) = Reached at
  Level (i at) = Reached at
  Level (r at default) = Reached at
  Level (t at) = Reached at
  Level (c at) = Has at.start
  Level (c? at) = Has at.start
  Level (a at) = Reached at
  Level (u-rest start) = length l ≡ length m
  Level (x at) = leb (at.start + (at.end - at.start)) (length l) ≡ leb (at.start + (at.end - at.start)) (length m)
  Level (t_within at) = length l ≡ length m
  Level (t-rest start) = length l ≡ length m
  Level (t-end start) = length l ≡ length m
  Level (charge at) = Reached at
  Level (known at) = Reached at
  Level (given column) = Unit {0}
  Level (unwritten column) = Unit {0}
  Level (triples start) = length l ≡ length m

  pub level : length l ≡ length m → (e : Entry) → Level e
  level q (u at) = rw q refl
  level q (i at) = rw q refl
  level q (r at default) = rw q refl
  level q (t at) = rw q refl
  level q (c at) = rw q refl
  level q (c? at) = rw q refl
  level q (a at) = rw q refl
  level q (u-rest start) = q
  level q (x at) = rw q refl
  level q (t_within at) = q
  level q (t-rest start) = q
  level q (t-end start) = q
  level q (charge at) = rw q refl
  level q (known at) = rw q refl
  level q (given column) = tt
  level q (unwritten column) = tt
  level q (triples start) = q

  abbrev pub Agree : Entry → Type 0
  Agree e = (column : ℕ) → takes e column ≡ true → get_or l column 0 ≡ get_or m column 0

  -- an X is its columns, whatever stands there
  abbrev pub Same : Bool → Entry → Type 0
  Same taken (u at) = unsigned_at l at ≡ unsigned_at m at
  Same taken (i at) = signed_at l at ≡ signed_at m at
  Same taken (r at default) = (real_at taken l at default ≡ real_at taken m at default) × (places_at taken l at ≡ places_at taken m at)
  Same taken (t at) = text_at l at ≡ text_at m at
  Same taken (c at) = character_at l at.start ≡ character_at m at.start
  Same taken (c? at) = optional_at l at.start ≡ optional_at m at.start
  Same taken (a at) = factor_at l at ≡ factor_at m at
  Same taken (u-rest start) = unsigned_from l start ≡ unsigned_from m start
  Same taken (x at) = Unit {0}
  Same taken (t_within at) = text_within l at ≡ text_within m at
  Same taken (t-rest start) = text_from l start ≡ text_from m start
  Same taken (t-end start) = end_text_from l start ≡ end_text_from m start
  Same taken (charge at) = charge_at l at ≡ charge_at m at
  Same taken (known at) = unsigned_at l at ≡ unsigned_at m at
  Same taken (given column) = get_or l column 0 ≡ get_or m column 0
  Same taken (unwritten column) = Unit {0}
  Same taken (triples start) = triples_from 13 start l ≡ triples_from 13 start m

  -- k triples, of which the last ends before start + 4 k
  triples-same : (k start : ℕ) → length l ≡ length m → ((n : ℕ) → start ≤ n → suc n < start + 4 * k → get_or l n 0 ≡ get_or m n 0)
      → triples_from k start l ≡ triples_from k start m
  unfolding triples_from blank_triple
  triples-same zero start q h = refl
  triples-same (suc k) start q h =
      rw (
        q,
        h start (omega arith) (omega arith),
        h (start + 1) (omega arith) (omega arith),
        h (start + 2) (omega arith) (omega arith),
        triples-same k (start + 4) q (λ n p s. h n (omega arith) (omega arith)),
      )
      refl

  pub same_entry : (taken : Bool) (e : Entry) → Level e → Agree e → Same taken e
  unfolding unsigned_at signed_at real_at places_at text_at character_at optional_at factor_at unsigned_from text_within text_from end_text_from charge_at
  same_entry taken (u at) q h = rw (part_same l m at q h) refl
  same_entry taken (i at) q h = rw (part_same l m at q h) refl
  same_entry taken (r at default) q h =
      let part = part_same l m at q h in
      (rw (part, real_at) refl, rw (part, places_at) refl)
  same_entry taken (t at) q h = rw (part_same l m at q h) refl
  same_entry taken (c at) q h = rw q refl
  same_entry taken (c? at) q h = rw (q, h at.start (eq-eqb at.start at.start refl)) refl
  same_entry taken (a at) q h = rw (part_same l m at q h) refl
  same_entry taken (u-rest start) q h = rw (rest-same l m q start h) refl
  same_entry taken (x at) q h = tt
  same_entry taken (t_within at) q h = rw (reached-same l m q at h) refl
  same_entry taken (t-rest start) q h = rw (rest-same l m q start h) refl
  same_entry taken (t-end start) q h = rw (rest-same l m q start h) refl
  same_entry taken (charge at) q h = rw (part_same l m at q h) refl
  same_entry taken (known at) q h = rw (part_same l m at q h) refl
  same_entry taken (given column) q h = h column (eq-eqb column column refl)
  same_entry taken (unwritten column) q h = tt
  same_entry taken (triples start) q h =
      triples-same 13 start q (λ n p s. h n (inside_in (start ⋯ (start + triples_width)) n p (omega arith)))

  module _ (options : Options) (remarks : List ℕ) where
    pub fault_entry : (e : Entry) → Level e → Agree e → faults_by (on options remarks l) e ≡ faults_by (on options remarks m) e
    unfolding number_faults text_faults character_faults unsigned_from_faults charge_faults unsigned_at
    fault_entry (u at) q h = rw (part_same l m at q h, q) refl
    fault_entry (i at) q h = rw (part_same l m at q h, q) refl
    fault_entry (r at default) q h = rw (part_same l m at q h, q) refl
    fault_entry (t at) q h = rw q refl
    fault_entry (c at) q h = rw q refl
    fault_entry (c? at) q h = rw q refl
    fault_entry (a at) q h = rw (part_same l m at q h, q) refl
    fault_entry (u-rest start) q h = rw (rest-same l m q start h, q) refl
    fault_entry (x at) q h = refl
    fault_entry (t_within at) q h = refl
    fault_entry (t-rest start) q h = refl
    fault_entry (t-end start) q h = refl
    fault_entry (charge at) q h = rw (part_same l m at q h) refl
    fault_entry (known at) q h = rw (part_same l m at q h) refl
    fault_entry (given column) q h = refl
    fault_entry (unwritten column) q h = refl
    fault_entry (triples start) q h = refl

  abbrev pub AgreeOn : List Entry → Type 0
  AgreeOn es = (column : ℕ) → table_takes es column ≡ true → get_or l column 0 ≡ get_or m column 0

  abbrev pub AllSame : Bool → List Entry → Type 0
  AllSame taken [] = Unit {0}
  AllSame taken (e ∷ rest) = Same taken e × AllSame taken rest

pub or_left : (p s : Bool) → p ≡ true → p || s ≡ true
or_left p s e = rw e refl

pub or_right : (p s : Bool) → s ≡ true → p || s ≡ true
or_right true s e = refl
or_right false s e = e

module _ (l m : List ℕ) (q : length l ≡ length m) where
  pub same-table : (taken : Bool) (es : List Entry) → AgreeOn l m es → AllSame l m taken es
  same-table taken [] h = tt
  same-table taken (e ∷ es) h = (
    same_entry l m taken e (level l m q e) (λ column p. h column (or_left (takes e column) (table_takes es column) p)),
    same-table taken es (λ column p. h column (or_right (takes e column) (table_takes es column) p)),
  )

  pub fault-table : (options : Options) (remarks : List ℕ) (es : List Entry) → AgreeOn l m es
      → table_faults (on options remarks l) es ≡ table_faults (on options remarks m) es
  fault-table options remarks [] h = refl
  fault-table options remarks (e ∷ es) h =
      rw (
        fault_entry l m options remarks e (level l m q e) (λ column p. h column (or_left (takes e column) (table_takes es column) p)),
        fault-table options remarks es (λ column p. h column (or_right (takes e column) (table_takes es column) p)),
      )
      refl
