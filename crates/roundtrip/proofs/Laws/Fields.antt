-- The fields that kinds share come back, the ten of a label and the four of a matrix's row, and the number of a model in either mode.
--     LabelBack, label-back     the ten, which stand in their columns, read back without faults
--     row_values, row-clear     the same of the four
--     number-back               the same of a model's number
-- Assumes nothing.
use mathlib.Core.Path.{◌≡◌, refl}
use Prim.Native.Nat.{ℕ}
use native.Mathlib.Omega.{arith}
use mathlib.Core.Bool.{Bool}
use mathlib.Core.List.{List, []}
use Rattle.line.specs.Columns.{◌⋯◌}
use Rattle.line.specs.Given.{Given}
use Rattle.line.specs.Text.{view_of}
use Rattle.line.specs.declared.options.Mode.{Mode}
use Rattle.line.specs.declared.options.Mode.TheVariants.{Crate, WwPdb}
use Rattle.line.specs.declared.text.Field.TheVariants.{Words, One}
use Rattle.number.specs.Trim.{trimmed}
use Rattle.field.specs.Charge.{charge_at}
use Rattle.field.specs.Number.{unsigned_at, signed_at, real_at, zero_real}
use Rattle.field.specs.Table.{table_faults}
use Rattle.field.specs.Text.{text_at, optional_at, character_at}
use Rattle.atom.specs.Atom.{basics_table}
use Rattle.transformation.specs.Transformation.{transformation_table}
use Rattle.transformation.specs.declared.record.Transformation.{Transformation}
use Rattle.model.specs.Model.{number_by, model_table}
use Rattle.cell.specs.Places.{places_of}
use Rattle.sheet.specs.Ink.{Ink, unsigned, signed, real, charge, left, right}
use Rattle.sheet.specs.Sheet.{◌holds◌, cells_from}
use Rattle.printer.specs.Sheets.{Label, model_sheet}
use Rattle.roundtrip.specs.Returned.{CleanLabel, double_back}
use Rattle.roundtrip.proofs.Laws.Stand.{Held, Lined, lined_held}
use Rattle.roundtrip.proofs.Laws.Numbers.{unsigned_in, signed_in_lem, real_in, rest_in}
use Rattle.roundtrip.proofs.Laws.Texts.{text_in, lent_in, optional_in, character_in}
use Rattle.roundtrip.proofs.Laws.Marks.{charge_in}

-- ---- a label
pub record LabelBack (l : List ℕ) (v : Label) : Type 0 where
  pub serial : unsigned_at l (6 ⋯ 11) ≡ v.serial
  pub name : (standIn : List ℕ) → view_of l standIn (Words (text_at l (12 ⋯ 16))) ≡ trimmed v.name
  pub alternate : (standIn : List ℕ) → view_of l standIn (One (optional_at l 16)) ≡ v.alternate
  pub residue : (standIn : List ℕ) → view_of l standIn (Words (text_at l (17 ⋯ 20))) ≡ v.residue
  pub chain : (standIn : List ℕ) → view_of l standIn (One (character_at l 21)) ≡ v.chain
  pub number : signed_at l (22 ⋯ 26) ≡ v.number
  pub insertion : (standIn : List ℕ) → view_of l standIn (One (optional_at l 26)) ≡ v.insertion
  pub segment : (standIn : List ℕ) → view_of l standIn (Words (text_at l (72 ⋯ 76))) ≡ v.segment
  pub element : (standIn : List ℕ) → view_of l standIn (Words (text_at l (76 ⋯ 78))) ≡ v.element
  pub charge : charge_at l (78 ⋯ 80) ≡ v.charge
  pub clear : (g : Given) → g.line ≡ l → table_faults g basics_table ≡ []

pub label-back : {l : List ℕ} {v : Label} → Held l (6 ⋯ 11 holds unsigned v.serial) → Held l (12 ⋯ 16 holds Ink.lent v.name)
    → Held l (16 ⋯ 17 holds right v.alternate) → Held l (17 ⋯ 20 holds right v.residue) → Held l (21 ⋯ 22 holds right v.chain)
    → Held l (22 ⋯ 26 holds signed v.number) → Held l (26 ⋯ 27 holds right v.insertion) → Held l (72 ⋯ 76 holds left v.segment)
    → Held l (76 ⋯ 78 holds right v.element) → Held l (78 ⋯ 80 holds charge v.charge) → CleanLabel v → LabelBack l v
label-back serial name alternate residue chain number insertion segment element charge clean =
    let serial = unsigned_in serial (omega arith) in
    let name = lent_in name (omega arith) in
    let alternate = optional_in alternate refl clean.alternate in
    let residue = text_in residue (omega arith) clean.residue in
    let chain = character_in chain refl clean.chain in
    let number = signed_in_lem number (omega arith) in
    let insertion = optional_in insertion refl clean.insertion in
    let segment = text_in segment (omega arith) clean.segment in
    let element = text_in element (omega arith) clean.element in
    let charge = charge_in charge refl in
    record {
      serial = serial.0;
      name = name.0;
      alternate = alternate.0;
      residue = residue.0;
      chain = chain.0;
      number = number.0;
      insertion = insertion.0;
      segment = segment.0;
      element = element.0;
      charge = charge.0;
      clear = λ g e.
          rw e
          (rw (serial.1, name.1, alternate.1, residue.1, chain.1, number.1, insertion.1, segment.1, element.1, charge.1) refl);
    }

-- ---- a matrix's row
module _ {l : List ℕ} {v : Transformation} {p q r s : ℕ} (a : Held l (10 ⋯ 20 holds real p v.a)) (b : Held l (20 ⋯ 30 holds real q v.b))
    (c : Held l (30 ⋯ 40 holds real r v.c)) (d : Held l (45 ⋯ 55 holds real s v.d)) where
  pub row_values : (on : Bool) → (real_at on l (10 ⋯ 20) zero_real ≡ double_back p (places_of p v.a))
      × (real_at on l (20 ⋯ 30) zero_real ≡ double_back q (places_of q v.b)) × (real_at on l (30 ⋯ 40) zero_real ≡ double_back r (places_of r v.c))
      × (real_at on l (45 ⋯ 55) zero_real ≡ double_back s (places_of s v.d))
  row_values on = (
    (real_in on zero_real a (omega arith)).0,
    (real_in on zero_real b (omega arith)).0,
    (real_in on zero_real c (omega arith)).0,
    (real_in on zero_real d (omega arith)).0,
  )

  pub row-clear : (g : Given) → g.line ≡ l → table_faults g transformation_table ≡ []
  row-clear g e =
      rw e
      (rw (
        (real_in g.options.exponents zero_real a (omega arith)).1,
        (real_in g.options.exponents zero_real b (omega arith)).1,
        (real_in g.options.exponents zero_real c (omega arith)).1,
        (real_in g.options.exponents zero_real d (omega arith)).1,
      ) refl)

-- ---- a model's number
module _ {l : List ℕ} {number : ℕ} (h : Lined l (model_sheet number)) where
  pub number-back : (mode : Mode)
      → (number_by mode l ≡ number) × ((g : Given) → g.line ≡ l → table_faults g (model_table mode) ≡ [])
  unfolding cells_from
  number-back Crate =
      let e = rest_in l 6 4 number 4 66 h.behind h.fit.0 (omega arith) in (e.0, λ g is. rw (is, e.1) refl)
  number-back WwPdb = let e = unsigned_in (lined_held h).0 (omega arith) in (e.0, λ g is. rw (is, e.1) refl)
