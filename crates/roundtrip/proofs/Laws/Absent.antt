-- The one case outside the premise: a chain of no bytes goes out as a blank and reads back as a blank, which at a chain is itself.
-- Assumes nothing.
use mathlib.Core.Path.{◌≡◌, refl}
use mathlib.Core.Bool.{Bool, true, false}
use mathlib.Core.List.{List, [], ◌∷◌}
use Prim.Native.Nat.{ℕ}
use lib.ListN.{get_or}
use lib.Ieee.{Float}
use Rattle.line.specs.Text.{view_of}
use Rattle.line.specs.declared.text.Field.TheVariants.{One}
use Rattle.atom.specs.Atom.{basics_of}
use Rattle.atom.specs.declared.record.Position.{Position}
use Rattle.atom.specs.declared.record.Factors.{Factors}
use Rattle.sheet.specs.Sheet.{line_of}
use Rattle.printer.specs.Sheets.{Label, atom_sheet, anisou_sheet}
use Rattle.roundtrip.specs.Returned.{Fit}
use Rattle.roundtrip.proofs.Laws.Stand.{line_lined, lined_held}
use Rattle.roundtrip.proofs.Laws.Texts.{blank_in}

-- the byte that is written, and what is shown of it
abbrev Blank : List ℕ → Type 0
Blank l = (get_or l 21 0 ≡ 32) × ((standIn : List ℕ) → view_of l standIn (One (basics_of l).chain) ≡ 32 ∷ [])

module _ (v : Label) (absent : v.chain ≡ []) where
  pub absent_chain : (hetero : Bool) (position : Position) (occupancy bfactor : Float) (asked : List ℕ)
      → Fit (atom_sheet hetero v position occupancy bfactor asked).cells → Blank (line_of (atom_sheet hetero v position occupancy bfactor asked))
  absent_chain true position occupancy bfactor asked fit =
      let h = lined_held (line_lined (atom_sheet true v position occupancy bfactor asked) refl fit) in blank_in h.1.1.1.1.0 refl absent
  absent_chain false position occupancy bfactor asked fit =
      let h = lined_held (line_lined (atom_sheet false v position occupancy bfactor asked) refl fit) in blank_in h.1.1.1.1.0 refl absent

  pub absent_anisou : (u : Factors) → Fit (anisou_sheet v u).cells → Blank (line_of (anisou_sheet v u))
  absent_anisou u fit = let h = lined_held (line_lined (anisou_sheet v u) refl fit) in blank_in h.1.1.1.1.0 refl absent
