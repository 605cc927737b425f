-- "Reading a written line gives no faults and the same integers, signs (not of an ANISOU zero) and texts."
--     written_read     in any mode and strictness a line that was written is accepted without faults, and its record shows what was written
-- Assumes nothing.
use mathlib.Core.Path.{◌≡◌, refl}
use Prim.Native.Nat.{ℕ}
use native.Mathlib.Omega.{arith}
use borrow.Author.Tests.{lt-ltb}
use mathlib.Core.Logic.{◌⊎◌}
use mathlib.Core.Bool.{Bool, true, false}
use mathlib.Core.List.{List, []}
use lib.ListN.{length}
use lib.Dec.{ltb}
use lib.Ieee.{Float}
use Rattle.std.specs.Prelude.{Ok}
use Rattle.line.specs.Faults.{no_faults}
use Rattle.lexitem.specs.Fault.{stamped_as}
use Rattle.line.specs.Given.{Given}
use Rattle.field.specs.Number.{zero_real, one_real}
use Rattle.field.specs.Table.{table_faults}
use Rattle.atom.specs.Atom.{basics_table}
use Rattle.atom.specs.declared.record.Position.{Position}
use Rattle.atom.specs.declared.record.Factors.{Factors}
use Rattle.crystal.specs.declared.record.Cell.{Cell as CrystalCell}
use Rattle.transformation.specs.Transformation.{transformation_table}
use Rattle.transformation.specs.declared.record.Transformation.{Transformation}
use Rattle.kind.specs.Name.{kept_by_atoms}
use Rattle.kind.specs.declared.Kind.{Kind}
use Rattle.kind.specs.declared.Kind.TheVariants as kinds
use Rattle.lexitem.specs.Describe.{item_of, fields_of, faults_of}
use Rattle.lexer.specs.Refusals.{Input, given}
use Rattle.lexer.specs.Lexed.{lexed}
use Rattle.cell.specs.Text.{blanks}
use Rattle.sheet.specs.Sheet.{Cell, Sheet, cells_from, line_of}
use Rattle.printer.specs.Sheets.{Label, atom_sheet, anisou_sheet, cell_sheet, scale_sheet, origx_sheet, mtrix_sheet, model_sheet}
use Rattle.roundtrip.specs.Returned.{Writable, CleanLabel, Clean, Fit, rows_shown, cells_shown}
use Rattle.roundtrip.specs.Returned.Writable.{atom, hetatm, anisou, cryst1, scale, origx, mtrix, model, ter, endmdl, end}
use Rattle.roundtrip.proofs.Laws.Stand.{Lined, Stand, AllHeld, lined_stand, lined_held}
use Rattle.roundtrip.proofs.Laws.Numbers.{unsigned_in, real_in, factor_in, rest_in}
use Rattle.roundtrip.proofs.Laws.Texts.{within_in}
use Rattle.roundtrip.proofs.Laws.Marks.{given_in}
use Rattle.roundtrip.proofs.Laws.Lines.{written_lined, written_low, written-kind, written-asked, clear-accepted}
use Rattle.roundtrip.proofs.Laws.Fields.{label-back, row_values, row-clear, number-back}

-- the record of a line has no faults, and shows what was written
abbrev Comes : Kind → Given → List Cell → Type 0
Comes k g cells = (faults_of k g ≡ []) × (rows_shown g.line (fields_of (item_of k g)) ≡ cells_shown cells)

-- ---- ATOM, HETATM, ANISOU
module _ (g : Given) (v : Label) (clean : CleanLabel v) where
  -- ATOM and HETATM differ in nothing that is shown
  atom-comes : (position : Position) (occupancy bfactor : Float) (asked : List ℕ)
      → AllHeld g.line (atom_sheet false v position occupancy bfactor asked).cells
      → Comes kinds.Atom g (atom_sheet false v position occupancy bfactor asked).cells
  unfolding faults_of
  atom-comes position occupancy bfactor asked
      (serial, (name, (alternate, (residue, (chain, (number, (insertion, (x, (y, (z, (o, (b, (segment, (element, (charge, more))))))))))))))) =
      let e = label-back {v = v} serial name alternate residue chain number insertion segment element charge clean in
      let none : table_faults g basics_table ≡ [] = e.clear g refl in
      let x = real_in g.options.exponents zero_real x (omega arith) in
      let y = real_in g.options.exponents zero_real y (omega arith) in
      let z = real_in g.options.exponents zero_real z (omega arith) in
      let o = real_in g.options.exponents one_real o (omega arith) in
      let b = real_in g.options.exponents zero_real b (omega arith) in (
        rw (x.1, y.1, z.1, o.1, b.1, none) refl,
        rw (
          x.0,
          y.0,
          z.0,
          o.0,
          b.0,
          e.serial,
          e.name [],
          e.alternate [],
          e.residue [],
          e.chain [],
          e.number,
          e.insertion [],
          e.segment [],
          e.element [],
          e.charge,
        ) refl,
      )

  anisou-comes : (u : Factors) → AllHeld g.line (anisou_sheet v u).cells → Comes kinds.Anisou g (anisou_sheet v u).cells
  unfolding faults_of
  anisou-comes u
      (serial, (name, (alternate, (residue, (chain, (number, (insertion, (u11, (u22, (u33, (u12, (u13, (u23, (segment, (element, (charge, more)))))))))))))))) =
      let e = label-back {v = v} serial name alternate residue chain number insertion segment element charge clean in
      let none : table_faults g basics_table ≡ [] = e.clear g refl in
      let a = factor_in u11 (omega arith) in
      let b = factor_in u22 (omega arith) in
      let c = factor_in u33 (omega arith) in
      let p = factor_in u12 (omega arith) in
      let q = factor_in u13 (omega arith) in
      let r = factor_in u23 (omega arith) in (
        rw (a.1, b.1, c.1, p.1, q.1, r.1, none) refl,
        rw (
          a.0,
          b.0,
          c.0,
          p.0,
          q.0,
          r.0,
          e.serial,
          e.name [],
          e.alternate [],
          e.residue [],
          e.chain [],
          e.number,
          e.insertion [],
          e.segment [],
          e.element [],
          e.charge,
        ) refl,
      )

-- ---- CRYST1
cryst1-comes : (g : Given) (cell : CrystalCell) (group : List ℕ) (z : ℕ) (asked : List ℕ) → Clean group → length g.line ≡ 80
    → Stand g.line (cell_sheet cell group z asked).cells → AllHeld g.line (cell_sheet cell group z asked).cells
    → Comes kinds.Cryst1 g (cell_sheet cell group z asked).cells
unfolding faults_of cells_from blanks
cryst1-comes g cell group z asked clean wide (s0, (s1, (s2, (s3, (s4, (s5, (s6, (last, more))))))))
    (a, (b, (c, (alpha, (beta, (gamma, (space, (number, none)))))))) =
    let a = real_in g.options.exponents zero_real a (omega arith) in
    let b = real_in g.options.exponents zero_real b (omega arith) in
    let c = real_in g.options.exponents zero_real c (omega arith) in
    let alpha = real_in g.options.exponents zero_real alpha (omega arith) in
    let beta = real_in g.options.exponents zero_real beta (omega arith) in
    let gamma = real_in g.options.exponents zero_real gamma (omega arith) in
    let has : ltb 66 (length g.line) ≡ true = lt-ltb 66 (length g.line) (omega arith) in
    let z = rest_in g.line 66 4 z 0 10 last number.fits (omega arith) in (
      rw (has, a.1, b.1, c.1, alpha.1, beta.1, gamma.1, z.1) refl,
      rw (has, a.0, b.0, c.0, alpha.0, beta.0, gamma.0, within_in space (omega arith) clean [], z.0) refl,
    )

-- ---- SCALE, ORIGX, MTRIX
module _ (g : Given) (row : ℕ) (v : Transformation) (asked : List ℕ) where
  scale-comes : AllHeld g.line (scale_sheet row v asked).cells → Comes (kinds.Scale row) g (scale_sheet row v asked).cells
  unfolding faults_of
  scale-comes (n, (a, (b, (c, (d, more))))) =
      let e = row_values {v = v} a b c d g.options.exponents in (row-clear {v = v} a b c d g refl, rw (e.0, e.1, e.2, e.3) refl)

  origx-comes : AllHeld g.line (origx_sheet row v asked).cells → Comes (kinds.Origx row) g (origx_sheet row v asked).cells
  unfolding faults_of
  origx-comes (n, (a, (b, (c, (d, more))))) =
      let e = row_values {v = v} a b c d g.options.exponents in (row-clear {v = v} a b c d g refl, rw (e.0, e.1, e.2, e.3) refl)

  mtrix-comes : (serial : ℕ) (isGiven : Bool) → AllHeld g.line (mtrix_sheet row serial v isGiven asked).cells
      → Comes (kinds.Mtrix row) g (mtrix_sheet row serial v isGiven asked).cells
  unfolding faults_of
  mtrix-comes serial isGiven (n, (s, (a, (b, (c, (d, (f, more))))))) =
      let u = unsigned_in s (omega arith) in
      let e = row_values {v = v} a b c d g.options.exponents in
      let none : table_faults g transformation_table ≡ [] = row-clear {v = v} a b c d g refl in
      (rw (u.1, none) refl, rw (u.0, e.0, e.1, e.2, e.3, given_in f refl) refl)

-- ---- MODEL
model-comes : (g : Given) (number : ℕ) → Lined g.line (model_sheet number) → Comes kinds.Model g (model_sheet number).cells
unfolding faults_of
model-comes g number h = let e = number-back h g.options.mode in (e.1 g refl, rw e.0 refl)

-- ---- all of them
comes : {k : Kind} {asked : List ℕ} {s : Sheet} → Writable k asked s → (g : Given) → Lined g.line s → Comes k g s.cells
unfolding faults_of
comes (atom v position occupancy bfactor asked clean) g h = atom-comes g v clean position occupancy bfactor asked (lined_held h)
comes (hetatm v position occupancy bfactor asked clean) g h = atom-comes g v clean position occupancy bfactor asked (lined_held h)
comes (anisou v factors clean) g h = anisou-comes g v clean factors (lined_held h)
comes (cryst1 cell group z asked clean) g h = cryst1-comes g cell group z asked clean h.width (lined_stand h) (lined_held h)
comes (scale row v asked) g h = scale-comes g row v asked (lined_held h)
comes (origx row v asked) g h = origx-comes g row v asked (lined_held h)
comes (mtrix row serial v given asked) g h = mtrix-comes g row v asked serial given (lined_held h)
comes (model number) g h = model-comes g number h
comes ter g h = (refl, refl)
comes endmdl g h = (refl, refl)
comes end g h = (refl, refl)

pub written_read : {k : Kind} {asked : List ℕ} {s : Sheet} → Writable k asked s → Fit s.cells → (i : Input) → i.line ≡ line_of s
    → length i.remarks ≡ 1000 → (i.options.atoms ≡ false) ⊎ (kept_by_atoms k ≡ true)
    → (lexed i ≡ record { line = i.number; outcome = Ok (item_of k (given i)); faults = stamped_as i.number k no_faults })
    × (rows_shown (line_of s) (fields_of (item_of k (given i))) ≡ cells_shown s.cells)
written_read {k} {s = s} w fit i e remarks kept =
    let h : Lined i.line s = rw e (written_lined w fit) in
    let shown = comes w (given i) h in (
      clear-accepted i k (rw e (written-kind w fit i.options.atoms i.options.mode kept)) h.width (rw e (written_low w)) remarks
          (written-asked w i.line h.width i.options.loose) shown.0,
      rw e (rw e at shown.1),
    )
