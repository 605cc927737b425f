-- "Reading a written line gives no faults and the same integers, signs (not of an ANISOU zero) and texts, if the texts have no white space at their ends;
-- a real that was read from a field with no more places than the writer's comes back with the same bits. Under the same premise, writing what was
-- read from a written line gives the same 80 bytes."
--     Writable              the lines that are written, by their kind, and 02's premise of each
--     Fit                   every field fits its columns
--     Shown, rows_shown      what a record that was read shows
--     cells_shown            what is to come back of a line's cells; a real as the double nearest to the decimal that was written
--     Few, cells_held        the reals were read from fields of so few places, and come back themselves
--     Signs                 the reals come back with their signs
--     Lent                  the name that is lent again is the one in the line
use Rattle.std.specs.Prelude.{ℕ, ◌≤◌, ◌<◌, ◌^◌, ◌≡◌, ◌⊎◌, Bool, true, false, List, [], ◌∷◌, ◌++◌, length, ℤ, nat_abs, Float, Option, Some, None}
use Rattle.std.specs.Float.{nan, inf, fin}
use Rattle.line.specs.Text.{view_of}
use Rattle.line.specs.declared.text.Field.TheVariants as field
use Rattle.number.specs.Trim.{trimmed}
use Rattle.number.specs.Whole.{with_sign}
use Rattle.real.specs.Double.{double_of}
use Rattle.real.specs.Real.{ten_thousandth}
use Rattle.field.specs.Number.{zero_real}
use Rattle.kind.specs.declared.Kind.{Kind}
use Rattle.kind.specs.declared.Kind.TheVariants.{Atom, Hetatm, Anisou, Cryst1, Scale, Origx, Mtrix, Model, Ter, Endmdl, End}
use Rattle.row.specs.declared.Row.{Row}
use Rattle.row.specs.declared.Value.{Value}
use Rattle.row.specs.declared.Value.TheVariants as value
use Rattle.cell.specs.Places.{places_of}
use Rattle.cell.specs.declared.places.Rounded.{Rounded}
use Rattle.sheet.specs.Ink.{Ink}
use Rattle.sheet.specs.Sheet.{Cell, ◌holds◌, Sheet, cell_fits}
use Rattle.sheet.specs.declared.Figure.{Figure}
use Rattle.sheet.specs.declared.Figure.TheVariants as figures
use Rattle.printer.specs.Sheets.{Label, atom_sheet, anisou_sheet, cell_sheet, scale_sheet, origx_sheet, mtrix_sheet, model_sheet, bare_sheet}
use Rattle.printer.specs.declared.bare.Bare.TheVariants as bare
use Rattle.atom.specs.declared.record.Position.{Position}
use Rattle.atom.specs.declared.record.Factors.{Factors}
use Rattle.crystal.specs.declared.record.Cell.{Cell as CrystalCell}
use Rattle.transformation.specs.declared.record.Transformation.{Transformation}

-- ---- which lines, and 02's premise
-- a text with no white space at its ends
abbrev pub Clean : List ℕ → Type 0
Clean t = trimmed t ≡ t

-- the name may have some: it reads back trimmed; a chain may be a blank, and comes back as itself
pub record CleanLabel (v : Label) : Type 0 where
  pub alternate : Clean v.alternate
  pub residue : Clean v.residue
  pub chain : length v.chain ≡ 1
  pub insertion : Clean v.insertion
  pub segment : Clean v.segment
  pub element : Clean v.element

pub data Writable : Kind → List ℕ → Sheet → Type 0 where
  atom : (v : Label) (position : Position) (occupancy bfactor : Float) (asked : List ℕ) → CleanLabel v
      → Writable Atom asked (atom_sheet false v position occupancy bfactor asked)
  hetatm : (v : Label) (position : Position) (occupancy bfactor : Float) (asked : List ℕ) → CleanLabel v
      → Writable Hetatm asked (atom_sheet true v position occupancy bfactor asked)
  anisou : (v : Label) (factors : Factors) → CleanLabel v → Writable Anisou [] (anisou_sheet v factors)
  cryst1 : (cell : CrystalCell) (group : List ℕ) (z : ℕ) (asked : List ℕ) → Clean group → Writable Cryst1 asked (cell_sheet cell group z asked)
  scale : (row : ℕ) (v : Transformation) (asked : List ℕ) → Writable (Scale row) asked (scale_sheet row v asked)
  origx : (row : ℕ) (v : Transformation) (asked : List ℕ) → Writable (Origx row) asked (origx_sheet row v asked)
  mtrix : (row serial : ℕ) (v : Transformation) (given : Bool) (asked : List ℕ) → Writable (Mtrix row) asked (mtrix_sheet row serial v given asked)
  model : (number : ℕ) → Writable Model [] (model_sheet number)
  ter : Writable Ter [] (bare_sheet bare.Ter)
  endmdl : Writable Endmdl [] (bare_sheet bare.Endmdl)
  end : Writable End [] (bare_sheet bare.End)

abbrev pub Fit : List Cell → Type 0
Fit [] = Unit {0}
Fit (c ∷ rest) = (cell_fits c ≡ true) × Fit rest

-- ---- what is shown
pub data Shown : Type 0 where
  number : ℕ → Shown
  integer : ℤ → Shown
  double : Float → Shown
  bytes : List ℕ → Shown
  flag : Bool → Shown
  nothing : Shown

-- of a record that was read from the line l
abbrev pub value_shown : List ℕ → Value → Shown
value_shown l (value.Unsigned n) = number n
value_shown l (value.Signed z) = integer z
value_shown l (value.Real x places) = double x
value_shown l (value.Factor x) = double x
value_shown l (value.Words t) = bytes (view_of l [] (field.Words t))
value_shown l (value.One c) = bytes (view_of l [] (field.One c))
value_shown l (value.Flag b) = flag b
value_shown l value.Nothing = nothing

abbrev pub rows_shown : List ℕ → List Row → List Shown
rows_shown l [] = []
rows_shown l (r ∷ rest) = value_shown l r.1 ∷ rows_shown l rest

-- ---- what is to come back
-- the double of the decimal that is written, and the same of one of ANISOU's six
abbrev pub double_back : ℕ → Option Rounded → Float
double_back q (Some r) = double_of r.minus r.digits q
double_back q None = zero_real

abbrev pub factor_back : Option Rounded → Float
factor_back (Some r) = ten_thousandth (with_sign r.minus r.digits)
factor_back None = zero_real

-- what a cell's ink shows, its reals by what becomes of them; a row is part of the kind, and no field
abbrev pub figure_by : (ℕ → Float → Float) → (Float → Float) → Figure → List Shown
figure_by real factor (figures.Unsigned n) = number n ∷ []
figure_by real factor (figures.Signed z) = integer z ∷ []
figure_by real factor (figures.Real q x) = double (real q x) ∷ []
figure_by real factor (figures.Factor x) = double (factor x) ∷ []
figure_by real factor (figures.Charge z) = integer z ∷ []
figure_by real factor (figures.Given b) = flag b ∷ []
figure_by real factor (figures.Row n) = []

abbrev pub ink_by : (ℕ → Float → Float) → (Float → Float) → Ink → List Shown
ink_by real factor (Ink.figure f) = figure_by real factor f
ink_by real factor (Ink.words isLeft t) = bytes t ∷ []
ink_by real factor (Ink.lent t) = bytes (trimmed t) ∷ []
ink_by real factor Ink.other = []

abbrev pub cells_by : (ℕ → Float → Float) → (Float → Float) → List Cell → List Shown
cells_by real factor [] = []
cells_by real factor ((at holds ink) ∷ rest) = ink_by real factor ink ++ cells_by real factor rest

abbrev pub cells_shown : List Cell → List Shown
cells_shown cells = cells_by (λ q x. double_back q (places_of q x)) (λ x. factor_back (places_of 4 x)) cells

-- ---- reals that were read from fields of no more places
pub record From (q : ℕ) (x : Float) : Type 0 where
  pub minus : Bool
  pub digits : ℕ
  pub places : ℕ
  pub is : x ≡ double_of minus digits places
  pub few : digits < 10 ^ 10
  pub less : places ≤ q

-- one of ANISOU's six, from an integer
pub record FromInteger (x : Float) : Type 0 where
  pub whole : ℤ
  pub is : x ≡ ten_thousandth whole
  pub few : nat_abs whole < 10 ^ 10

abbrev pub FewFigure : Figure → Type 0
FewFigure (figures.Unsigned n) = Unit {0}
FewFigure (figures.Signed z) = Unit {0}
FewFigure (figures.Real q x) = From q x
FewFigure (figures.Factor x) = FromInteger x
FewFigure (figures.Charge z) = Unit {0}
FewFigure (figures.Given b) = Unit {0}
FewFigure (figures.Row n) = Unit {0}

abbrev pub FewInk : Ink → Type 0
FewInk (Ink.figure f) = FewFigure f
FewInk (Ink.words isLeft t) = Unit {0}
FewInk (Ink.lent t) = Unit {0}
FewInk Ink.other = Unit {0}

abbrev pub Few : List Cell → Type 0
Few [] = Unit {0}
Few ((at holds ink) ∷ rest) = FewInk ink × Few rest

-- then every real comes back itself
abbrev pub cells_held : List Cell → List Shown
cells_held cells = cells_by (λ q x. x) (λ x. x) cells

-- ---- signs
-- a double below zero, and the zero with a minus
abbrev pub negative : Float → Bool
negative nan = false
negative (inf s) = s
negative (fin s m e) = s

-- one of ANISOU's six loses the sign of its zero: "its zeros always as `0`"
abbrev pub SignFigure : Figure → Type 0
SignFigure (figures.Unsigned n) = Unit {0}
SignFigure (figures.Signed z) = Unit {0}
SignFigure (figures.Real q x) = negative (double_back q (places_of q x)) ≡ negative x
SignFigure (figures.Factor x) = (factor_back (places_of 4 x) ≡ zero_real) ⊎ (negative (factor_back (places_of 4 x)) ≡ negative x)
SignFigure (figures.Charge z) = Unit {0}
SignFigure (figures.Given b) = Unit {0}
SignFigure (figures.Row n) = Unit {0}

abbrev pub SignInk : Ink → Type 0
SignInk (Ink.figure f) = SignFigure f
SignInk (Ink.words isLeft t) = Unit {0}
SignInk (Ink.lent t) = Unit {0}
SignInk Ink.other = Unit {0}

-- every real that is shown has the sign of the one that was written
abbrev pub Signs : List Cell → Type 0
Signs [] = Unit {0}
Signs ((at holds ink) ∷ rest) = SignInk ink × Signs rest

-- ---- the lent name
-- the name that stands in a line, if one does
abbrev pub LentInk : List ℕ → Ink → Type 0
LentInk name (Ink.figure f) = Unit {0}
LentInk name (Ink.words isLeft t) = Unit {0}
LentInk name (Ink.lent t) = name ≡ t
LentInk name Ink.other = Unit {0}

abbrev pub Lent : List ℕ → List Cell → Type 0
Lent name [] = Unit {0}
Lent name ((at holds ink) ∷ rest) = LentInk name ink × Lent name rest
