-- What all written lines share: 80 bytes below 128 in which the fields stand, under the name of their kind.
--     written_lined     the fields stand in the line
--     written_low       every byte is below 128
--     written-kind      the kind that is read
--     Asked, written-asked     the line has what its kind asks for
--     clear-accepted    such a line without faults is accepted
-- Assumes nothing.
use mathlib.Core.Path.{◌≡◌, refl}
use Prim.Native.Nat.{ℕ, zero, suc, ◌+◌}
use native.Mathlib.Omega.{arith}
use borrow.Author.Tests.{lt-ltb, le-ltb, eq-eqb, ltb-true}
use mathlib.Core.Logic.{◌⊎◌, inl, inr}
use mathlib.Core.Bool.{Bool, true, false}
use mathlib.Core.List.{List, [], ◌∷◌}
use lib.ListN.{length, take}
use lib.Dec.{ltb}
use Rattle.std.specs.Prelude.{Ok}
use Rattle.line.specs.Faults.{no_faults}
use Rattle.lexitem.specs.Fault.{stamped_as}
use Rattle.line.specs.declared.options.Mode.{Mode}
use Rattle.number.proofs.Laws.Choice.{and_left}
use Rattle.kind.specs.Kind.{kind_of, kind_by, names_by, row_place}
use Rattle.kind.specs.Name.{kept_by_atoms}
use Rattle.kind.specs.declared.Kind.{Kind}
use Rattle.lexitem.specs.Describe.{bound_of, item_of, faults_of}
use Rattle.lexer.specs.Refusals.{Input, kind, given, plain, header_cut, remark_long, missing}
use Rattle.lexer.specs.Lexed.{lexed}
use Rattle.cell.specs.Cell.{fitting, texted}
use Rattle.cell.specs.Text.{blanks, right}
use Rattle.cell.specs.Words.{row_fits_of, row_bytes}
use Rattle.sheet.specs.Sheet.{Sheet, cells_from, line_of, ascend}
use Rattle.roundtrip.specs.Returned.{Writable, Fit}
use Rattle.roundtrip.specs.Returned.Writable.{atom, hetatm, anisou, cryst1, scale, origx, mtrix, model, ter, endmdl, end}
use Rattle.roundtrip.proofs.Laws.Stand.{Lined, line_lined}
use Rattle.roundtrip.proofs.Laws.Plain.{Low, line_low}

-- ---- the fields stand in the line
ascends : {k : Kind} {asked : List ℕ} {s : Sheet} → Writable k asked s → ascend (length s.name) s.cells ≡ true
unfolding row_place
ascends (atom v position occupancy bfactor asked clean) = refl
ascends (hetatm v position occupancy bfactor asked clean) = refl
ascends (anisou v factors clean) = refl
ascends (cryst1 cell group z asked clean) = refl
ascends (scale row v asked) = refl
ascends (origx row v asked) = refl
ascends (mtrix row serial v given asked) = refl
ascends (model number) = refl
ascends ter = refl
ascends endmdl = refl
ascends end = refl

pub written_lined : {k : Kind} {asked : List ℕ} {s : Sheet} → Writable k asked s → Fit s.cells → Lined (line_of s) s
written_lined {s = s} w fit = line_lined s (ascends w) fit

-- ---- every byte is below 128
name-low : {k : Kind} {asked : List ℕ} {s : Sheet} → Writable k asked s → Low s.name
unfolding plain row_place
name-low (atom v position occupancy bfactor asked clean) = refl
name-low (hetatm v position occupancy bfactor asked clean) = refl
name-low (anisou v factors clean) = refl
name-low (cryst1 cell group z asked clean) = refl
name-low (scale row v asked) = refl
name-low (origx row v asked) = refl
name-low (mtrix row serial v given asked) = refl
name-low (model number) = refl
name-low ter = refl
name-low endmdl = refl
name-low end = refl

pub written_low : {k : Kind} {asked : List ℕ} {s : Sheet} → Writable k asked s → Low (line_of s)
written_low {s = s} w = line_low s (name-low w)

-- ---- the kind
abbrev Keeps : Bool → Kind → Type 0
Keeps atoms k = (atoms ≡ false) ⊎ (kept_by_atoms k ≡ true)

never : (true ≡ false) ⊎ (false ≡ true) → ⊥
never (inl e) = let z : ◌≡◌ {A = ℕ} 0 1 = cc in omega arith
never (inr e) = let z : ◌≡◌ {A = ℕ} 0 1 = cc in omega arith

no_row : (n : ℕ) → row_fits_of 1 (suc (suc (suc n))) ≡ true → ⊥
unfolding row_fits_of
no_row n e = omega (arith, ltb-true (suc (suc (suc n))) 3 (and_left (ltb (suc (suc (suc n))) 3) (fitting 1 ((49 + suc (suc (suc n))) ∷ [])) e))

-- the first six bytes are a name, and its kind
named : {k : Kind} {asked : List ℕ} {s : Sheet} → Writable k asked s → Fit s.cells → (atoms : Bool) → Keeps atoms k
    → kind_by (take 6 (line_of s)) (names_by atoms) ≡ k
unfolding line_of cells_from row_bytes texted fitting right blanks row_place
named (atom v position occupancy bfactor asked clean) fit true kept = refl
named (atom v position occupancy bfactor asked clean) fit false kept = refl
named (hetatm v position occupancy bfactor asked clean) fit true kept = refl
named (hetatm v position occupancy bfactor asked clean) fit false kept = refl
named (anisou v factors clean) fit true kept = absurd (never kept)
named (anisou v factors clean) fit false kept = refl
named (cryst1 cell group z asked clean) fit true kept = absurd (never kept)
named (cryst1 cell group z asked clean) fit false kept = refl
named (scale zero v asked) fit true kept = absurd (never kept)
named (scale zero v asked) fit false kept = refl
named (scale (suc zero) v asked) fit true kept = absurd (never kept)
named (scale (suc zero) v asked) fit false kept = refl
named (scale (suc (suc zero)) v asked) fit true kept = absurd (never kept)
named (scale (suc (suc zero)) v asked) fit false kept = refl
named (scale (suc (suc (suc n))) v asked) fit atoms kept = absurd (no_row n fit.0)
named (origx zero v asked) fit true kept = absurd (never kept)
named (origx zero v asked) fit false kept = refl
named (origx (suc zero) v asked) fit true kept = absurd (never kept)
named (origx (suc zero) v asked) fit false kept = refl
named (origx (suc (suc zero)) v asked) fit true kept = absurd (never kept)
named (origx (suc (suc zero)) v asked) fit false kept = refl
named (origx (suc (suc (suc n))) v asked) fit atoms kept = absurd (no_row n fit.0)
named (mtrix zero serial v given asked) fit true kept = absurd (never kept)
named (mtrix zero serial v given asked) fit false kept = refl
named (mtrix (suc zero) serial v given asked) fit true kept = absurd (never kept)
named (mtrix (suc zero) serial v given asked) fit false kept = refl
named (mtrix (suc (suc zero)) serial v given asked) fit true kept = absurd (never kept)
named (mtrix (suc (suc zero)) serial v given asked) fit false kept = refl
named (mtrix (suc (suc (suc n))) serial v given asked) fit atoms kept = absurd (no_row n fit.0)
named (model number) fit true kept = refl
named (model number) fit false kept = refl
named ter fit true kept = refl
named ter fit false kept = refl
named endmdl fit true kept = refl
named endmdl fit false kept = refl
named end fit true kept = refl
named end fit false kept = refl

pub written-kind : {k : Kind} {asked : List ℕ} {s : Sheet} → Writable k asked s → Fit s.cells → (atoms : Bool) (mode : Mode) → Keeps atoms k
    → kind_of atoms mode (line_of s) ≡ k
unfolding kind_of
written-kind {s = s} w fit atoms mode kept =
    let wide = (written_lined w fit).width in
    rw (lt-ltb 6 (length (line_of s)) (omega arith)) (named w fit atoms kept)

-- ---- what the kind asks for
pub record Asked (k : Kind) (l : List ℕ) (loose : Bool) : Type 0 where
  pub header : header_cut (bound_of k) l ≡ false
  pub remark : remark_long (bound_of k) l loose ≡ false
  pub least : missing (bound_of k) l ≡ 0

pub written-asked : {k : Kind} {asked : List ℕ} {s : Sheet} → Writable k asked s → (l : List ℕ) → length l ≡ 80 → (loose : Bool) → Asked k l loose
written-asked (atom v position occupancy bfactor asked clean) l n loose = record { header = refl; remark = refl; least = refl }
written-asked (hetatm v position occupancy bfactor asked clean) l n loose = record { header = refl; remark = refl; least = refl }
written-asked (anisou v factors clean) l n loose = record { header = refl; remark = refl; least = refl }
written-asked (cryst1 cell group z asked clean) l n loose = record { header = refl; remark = refl; least = rw n refl }
written-asked (scale row v asked) l n loose = record { header = refl; remark = refl; least = refl }
written-asked (origx row v asked) l n loose = record { header = refl; remark = refl; least = refl }
written-asked (mtrix row serial v given asked) l n loose = record { header = refl; remark = refl; least = refl }
written-asked (model number) l n loose = record { header = refl; remark = refl; least = refl }
written-asked ter l n loose = record { header = refl; remark = refl; least = refl }
written-asked endmdl l n loose = record { header = refl; remark = refl; least = refl }
written-asked end l n loose = record { header = refl; remark = refl; least = refl }

pub clear-accepted : (i : Input) (k : Kind) → kind i ≡ k → length i.line ≡ 80 → Low i.line → length i.remarks ≡ 1000
    → Asked k i.line i.options.loose → faults_of k (given i) ≡ []
    → lexed i ≡ record { line = i.number; outcome = Ok (item_of k (given i)); faults = stamped_as i.number k no_faults }
unfolding lexed
clear-accepted i k is wide low remarks asked none =
    rw (
      is,
      eq-eqb (length i.remarks) 1000 remarks,
      low,
      le-ltb 1024 (length i.line) (omega arith),
      le-ltb (length i.line) (length i.line) (omega arith),
      asked.header,
      asked.remark,
      asked.least,
      none,
    ) refl
