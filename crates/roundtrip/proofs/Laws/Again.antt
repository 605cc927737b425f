-- "Under the same premise, writing what was read from a written line gives the same 80 bytes": with the same places asked.
--     written-again     what is written of a line's record fits, and is the line
-- Assumes nothing.
use mathlib.Core.Path.{◌≡◌, refl, ap}
use Prim.Native.Nat.{ℕ}
use native.Mathlib.Omega.{arith}
use borrow.Author.Tests.{lt-ltb}
use mathlib.Core.Bool.{Bool, true, false}
use mathlib.Core.List.{List, [], ◌++◌}
use lib.ListN.{length}
use lib.Dec.{ltb}
use lib.Ieee.{Float}
use Rattle.line.specs.Given.{Given}
use Rattle.field.specs.Number.{zero_real, one_real}
use Rattle.atom.specs.declared.record.Position.{Position}
use Rattle.atom.specs.declared.record.Factors.{Factors}
use Rattle.crystal.specs.declared.record.Cell.{Cell as CrystalCell}
use Rattle.transformation.specs.declared.record.Transformation.{Transformation}
use Rattle.kind.specs.declared.Kind.{Kind}
use Rattle.kind.specs.declared.Kind.TheVariants as kinds
use Rattle.lexitem.specs.Describe.{item_of}
use Rattle.lexer.specs.Refusals.{Input, given}
use Rattle.cell.specs.Text.{blanks}
use Rattle.sheet.specs.Sheet.{Sheet, cells_from, line_of}
use Rattle.printer.specs.Sheets.{Label, atom_sheet, anisou_sheet, cell_sheet, scale_sheet, origx_sheet, mtrix_sheet, model_sheet}
use Rattle.writer.specs.Writer.{item_sheet}
use Rattle.roundtrip.specs.Returned.{Writable, CleanLabel, Clean, Fit, Lent}
use Rattle.roundtrip.specs.Returned.Writable.{atom, hetatm, anisou, cryst1, scale, origx, mtrix, model, ter, endmdl, end}
use Rattle.roundtrip.proofs.Laws.Stand.{Lined, Stand, AllHeld, lined_stand, lined_held}
use Rattle.roundtrip.proofs.Laws.Numbers.{unsigned_in, real_in, factor_in, rest_in}
use Rattle.roundtrip.proofs.Laws.Texts.{within_in}
use Rattle.roundtrip.proofs.Laws.Marks.{given_in}
use Rattle.roundtrip.proofs.Laws.Lines.{written_lined}
use Rattle.roundtrip.proofs.Laws.Fields.{label-back, row_values, number-back}
use Rattle.roundtrip.proofs.Laws.Redrawn.{cells_again, cells-again}

-- the sheet with what is read of its cells
abbrev redrawn : Sheet → Sheet
redrawn s = record { name = s.name; cells = cells_again s.cells }

abbrev Again : Kind → Given → List ℕ → List ℕ → List ℕ → Sheet → Type 0
Again k g standIn name asked s = item_sheet (item_of k g) g.line standIn name asked ≡ redrawn s

module _ (g : Given) (standIn asked : List ℕ) where
  -- ---- ATOM, HETATM, ANISOU
  module _ (v : Label) (clean : CleanLabel v) where
    atom-again : (position : Position) (occupancy bfactor : Float) → AllHeld g.line (atom_sheet false v position occupancy bfactor asked).cells
        → Again kinds.Atom g standIn v.name asked (atom_sheet false v position occupancy bfactor asked)
        × Again kinds.Hetatm g standIn v.name asked (atom_sheet true v position occupancy bfactor asked)
    atom-again position occupancy bfactor
        (serial, (name, (alternate, (residue, (chain, (number, (insertion, (x, (y, (z, (o, (b, (segment, (element, (charge, more))))))))))))))) =
        let e = label-back {v = v} serial name alternate residue chain number insertion segment element charge clean in
        let x = (real_in g.options.exponents zero_real x (omega arith)).0 in
        let y = (real_in g.options.exponents zero_real y (omega arith)).0 in
        let z = (real_in g.options.exponents zero_real z (omega arith)).0 in
        let o = (real_in g.options.exponents one_real o (omega arith)).0 in
        let b = (real_in g.options.exponents zero_real b (omega arith)).0 in
        rw (
          x,
          y,
          z,
          o,
          b,
          e.serial,
          e.alternate standIn,
          e.residue standIn,
          e.chain standIn,
          e.number,
          e.insertion standIn,
          e.segment standIn,
          e.element standIn,
          e.charge,
        ) (refl, refl)

    anisou-again : (u : Factors) → AllHeld g.line (anisou_sheet v u).cells → Again kinds.Anisou g standIn v.name asked (anisou_sheet v u)
    anisou-again u
        (serial, (name, (alternate, (residue, (chain, (number, (insertion, (u11, (u22, (u33, (u12, (u13, (u23, (segment, (element, (charge, more)))))))))))))))) =
        let e = label-back {v = v} serial name alternate residue chain number insertion segment element charge clean in
        let a = (factor_in u11 (omega arith)).0 in
        let b = (factor_in u22 (omega arith)).0 in
        let c = (factor_in u33 (omega arith)).0 in
        let p = (factor_in u12 (omega arith)).0 in
        let q = (factor_in u13 (omega arith)).0 in
        let r = (factor_in u23 (omega arith)).0 in
        rw (
          a,
          b,
          c,
          p,
          q,
          r,
          e.serial,
          e.alternate standIn,
          e.residue standIn,
          e.chain standIn,
          e.number,
          e.insertion standIn,
          e.segment standIn,
          e.element standIn,
          e.charge,
        ) refl

  -- no other kind has a lent name
  module _ (name : List ℕ) where
    -- ---- CRYST1
    cryst1-again : (cell : CrystalCell) (group : List ℕ) (z : ℕ) → Clean group → length g.line ≡ 80
        → Stand g.line (cell_sheet cell group z asked).cells → AllHeld g.line (cell_sheet cell group z asked).cells
        → Again kinds.Cryst1 g standIn name asked (cell_sheet cell group z asked)
    unfolding cells_from blanks
    cryst1-again cell group z clean wide (s0, (s1, (s2, (s3, (s4, (s5, (s6, (last, more))))))))
        (a, (b, (c, (alpha, (beta, (gamma, (space, (number, none)))))))) =
        let a = (real_in g.options.exponents zero_real a (omega arith)).0 in
        let b = (real_in g.options.exponents zero_real b (omega arith)).0 in
        let c = (real_in g.options.exponents zero_real c (omega arith)).0 in
        let alpha = (real_in g.options.exponents zero_real alpha (omega arith)).0 in
        let beta = (real_in g.options.exponents zero_real beta (omega arith)).0 in
        let gamma = (real_in g.options.exponents zero_real gamma (omega arith)).0 in
        let has : ltb 66 (length g.line) ≡ true = lt-ltb 66 (length g.line) (omega arith) in
        let z = (rest_in g.line 66 4 z 0 10 last number.fits (omega arith)).0 in
        rw (has, a, b, c, alpha, beta, gamma, within_in space (omega arith) clean standIn, z) refl

    -- ---- SCALE, ORIGX, MTRIX
    module _ (row : ℕ) (v : Transformation) where
      scale-again : AllHeld g.line (scale_sheet row v asked).cells → Again (kinds.Scale row) g standIn name asked (scale_sheet row v asked)
      scale-again (n, (a, (b, (c, (d, more))))) = let e = row_values {v = v} a b c d g.options.exponents in rw (e.0, e.1, e.2, e.3) refl

      origx-again : AllHeld g.line (origx_sheet row v asked).cells → Again (kinds.Origx row) g standIn name asked (origx_sheet row v asked)
      origx-again (n, (a, (b, (c, (d, more))))) = let e = row_values {v = v} a b c d g.options.exponents in rw (e.0, e.1, e.2, e.3) refl

      mtrix-again : (serial : ℕ) (isGiven : Bool) → AllHeld g.line (mtrix_sheet row serial v isGiven asked).cells
          → Again (kinds.Mtrix row) g standIn name asked (mtrix_sheet row serial v isGiven asked)
      mtrix-again serial isGiven (n, (s, (a, (b, (c, (d, (f, more))))))) =
          let e = row_values {v = v} a b c d g.options.exponents in
          rw ((unsigned_in s (omega arith)).0, e.0, e.1, e.2, e.3, given_in f refl) refl

    -- ---- MODEL
    model-again : (number : ℕ) → Lined g.line (model_sheet number) → Again kinds.Model g standIn name asked (model_sheet number)
    model-again number h = rw (number-back h g.options.mode).0 refl

-- ---- all of them
again : {k : Kind} {asked : List ℕ} {s : Sheet} → Writable k asked s → (g : Given) → Lined g.line s → (standIn name : List ℕ) → Lent name s.cells
    → Again k g standIn name asked s
again (atom v position occupancy bfactor asked clean) g h standIn name lent =
    rw lent.1.0 (atom-again g standIn asked v clean position occupancy bfactor (lined_held h)).0
again (hetatm v position occupancy bfactor asked clean) g h standIn name lent =
    rw lent.1.0 (atom-again g standIn asked v clean position occupancy bfactor (lined_held h)).1
again (anisou v factors clean) g h standIn name lent = rw lent.1.0 (anisou-again g standIn [] v clean factors (lined_held h))
again (cryst1 cell group z asked clean) g h standIn name lent =
    cryst1-again g standIn asked name cell group z clean h.width (lined_stand h) (lined_held h)
again (scale row v asked) g h standIn name lent = scale-again g standIn asked name row v (lined_held h)
again (origx row v asked) g h standIn name lent = origx-again g standIn asked name row v (lined_held h)
again (mtrix row serial v given asked) g h standIn name lent = mtrix-again g standIn asked name row v serial given (lined_held h)
again (model number) g h standIn name lent = model-again g standIn [] name number h
again ter g h standIn name lent = refl
again endmdl g h standIn name lent = refl
again end g h standIn name lent = refl

redrawn-line : (s : Sheet) → Fit s.cells → Fit (redrawn s).cells × (line_of (redrawn s) ≡ line_of s)
unfolding line_of
redrawn-line s fit =
    let (fits, drawn) = cells-again (length s.name) s.cells fit in (fits, ap (λ (t : List ℕ). s.name ++ t) drawn)

pub written-again : {k : Kind} {asked : List ℕ} {s : Sheet} → Writable k asked s → Fit s.cells → (i : Input) → i.line ≡ line_of s
    → (standIn name : List ℕ) → Lent name s.cells
    → Fit (item_sheet (item_of k (given i)) (line_of s) standIn name asked).cells
    × (line_of (item_sheet (item_of k (given i)) (line_of s) standIn name asked) ≡ line_of s)
written-again {k} {asked} {s} w fit i e standIn name lent =
    let h : Lined i.line s = rw e (written_lined w fit) in
    let same : item_sheet (item_of k (given i)) (line_of s) standIn name asked ≡ redrawn s = rw e (rw e at (again w (given i) h standIn name lent)) in
    rw same (redrawn-line s fit)
