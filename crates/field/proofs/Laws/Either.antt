-- A plain decimal is read the same with the option for exponents on, and what is none is read with its exponent.
--     plain-fine, value-either     a real that is fine with the option off
--     value_any                    whatever its default
--     exponent_fine                one that isn't
--     either-real                  so any real by the one and then by the other
--     table-either                 a table of fine fields is fine with the option on
-- Assumes nothing.
use Prim.Native.Nat.{ℕ}
use mathlib.Core.Path.{◌≡◌, refl, sym, ap, ◌∙◌}
use mathlib.Core.Bool.{Bool, true, false}
use mathlib.Core.List.{List, [], ◌∷◌}
use lib.Ieee.{Float}
use Rattle.number.specs.Wide.{marked_of}
use Rattle.number.proofs.Laws.Choice.{and_left, and_right}
use Rattle.std.specs.Prelude.{Option, Some, None, is_some, unwrap_or}
use Rattle.std.specs.Option.{option_or}
use Rattle.real.specs.Real.{real, real_of}
use Rattle.real.specs.Wide.{wide_real, real_with}
use Rattle.real.specs.declared.Real.{Real}
use Rattle.real.proofs.Laws.WideReal.{off-is, on-is, marked-is}
use Rattle.line.specs.Columns.{part_of}
use Rattle.line.specs.Given.{alone, taking}
use Rattle.line.specs.declared.columns.Columns.{Columns}
use Rattle.field.specs.Found.{is_fine}
use Rattle.field.specs.Number.{zero_real, real_at, places_at, read_at, real_faults, fine_real}
use Rattle.field.specs.Table.{Entry, faults_by, all_fine}
use Rattle.field.specs.Table.Entry.{u, i, r, t, c, c?, a, u-rest, x, t_within, t-rest, t-end, charge, known, given, unwritten, triples}
use Rattle.field.proofs.Laws.Found.{fine-cond}
use Rattle.field.proofs.Laws.Fine.{real-said, fine-says}

said-either : (text : List ℕ) → is_some (real_with false text) ≡ true → (on : Bool) → real_with on text ≡ real_with false text
said-either text e on = go (real_of text) refl (rw (off-is text) at e)
  where
    go : (said : Option Real) → real_of text ≡ said → is_some said ≡ true → real_with on text ≡ real_with false text
    go (Some said) is e = on-is text is on ∙ sym (off-is text ∙ is)
    go None is e = cc

part-either : (l : List ℕ) (at : Columns) → is_fine (real_faults false l at) ≡ true → (on : Bool)
    → real_with on (part_of l at) ≡ real_with false (part_of l at)
part-either l at e = said-either (part_of l at) (sym (fine-says false l at) ∙ e)

pub value-either : (l : List ℕ) (at : Columns) → is_fine (real_faults false l at) ≡ true → (on : Bool) (default : Float)
    → (real_at false l at default ≡ real_at on l at default) × (places_at false l at ≡ places_at on l at)
unfolding real_at places_at
value-either l at e on default =
    let same = sym (part-either l at e on) in
    (ap (λ (s : Option Real). (unwrap_or s (real default 0)).value) same, ap (λ (s : Option Real). (unwrap_or s (real zero_real 0)).places) same)

-- nor is its value that of a default
pub value_any : (l : List ℕ) (at : Columns) → is_fine (real_faults false l at) ≡ true → (d default : Float)
    → real_at false l at d ≡ real_at false l at default
unfolding real_at
value_any l at e d default = go (real_with false (part_of l at)) (sym (fine-says false l at) ∙ e)
  where
    go : (said : Option Real) → is_some said ≡ true → (unwrap_or said (real d 0)).value ≡ (unwrap_or said (real default 0)).value
    go (Some said) e = refl
    go None e = cc

pub plain-fine : (l : List ℕ) (at : Columns) → is_fine (real_faults false l at) ≡ true → (on : Bool) → fine_real false l at ≡ fine_real on l at
plain-fine l at e on = sym (real-said false l at zero_real) ∙ sym (part-either l at e on) ∙ real-said on l at zero_real

-- and where there is none, an exponent is looked for
pub exponent_fine : (l : List ℕ) (at : Columns) → is_fine (real_faults false l at) ≡ false → wide_real (marked_of (part_of l at)) ≡ fine_real true l at
exponent_fine l at e =
    sym (marked-is (part_of l at) (go (real_of (part_of l at)) (sym (off-is (part_of l at))) (sym (fine-says false l at) ∙ e))) ∙ real-said true l at zero_real
  where
    go : (said : Option Real) → said ≡ real_with false (part_of l at) → is_some (real_with false (part_of l at)) ≡ false → said ≡ None
    go (Some said) is e = cc
    go None is e = refl

pub either-real : (l : List ℕ) (at : Columns) → option_or (fine_real false l at) (wide_real (marked_of (part_of l at))) ≡ fine_real true l at
either-real l at = go (is_fine (real_faults false l at)) refl
  where
    go : (b : Bool) → is_fine (real_faults false l at) ≡ b → option_or (fine_real false l at) (wide_real (marked_of (part_of l at))) ≡ fine_real true l at
    go true e =
        let q : fine_real false l at ≡ Some (read_at false l at zero_real) = fine-cond (real_faults false l at) (read_at false l at zero_real) ∙ rw e refl in
        rw q (sym q ∙ plain-fine l at e true)
    go false e =
        let q : fine_real false l at ≡ None = fine-cond (real_faults false l at) (read_at false l at zero_real) ∙ rw e refl in
        rw q (exponent_fine l at e)

entry_either : (l : List ℕ) (on : Bool) (h : Entry) → is_fine (faults_by (alone l) h) ≡ true → is_fine (faults_by (taking on l) h) ≡ true
entry_either l on (u at) e = e
entry_either l on (i at) e = e
entry_either l on (r at default) e = fine-says on l at ∙ rw (part-either l at e on) (sym (fine-says false l at) ∙ e)
entry_either l on (t at) e = e
entry_either l on (c at) e = e
entry_either l on (c? at) e = e
entry_either l on (a at) e = e
entry_either l on (u-rest start) e = e
entry_either l on (x at) e = e
entry_either l on (t_within at) e = e
entry_either l on (t-rest start) e = e
entry_either l on (t-end start) e = e
entry_either l on (charge at) e = e
entry_either l on (known at) e = e
entry_either l on (given column) e = e
entry_either l on (unwritten column) e = e
entry_either l on (triples start) e = e

pub table-either : (l : List ℕ) (on : Bool) (es : List Entry) → all_fine (alone l) es ≡ true → all_fine (taking on l) es ≡ true
table-either l on [] e = refl
table-either l on (h ∷ es) e =
    let own = is_fine (faults_by (alone l) h) in
    let others = all_fine (alone l) es in
    rw (entry_either l on h (and_left own others e)) (table-either l on es (and_right own others e))
