-- How a line is drawn, cell behind cell, on bytes of our own: the page so far, and the first field that doesn't fit. No rule of 02 is here.
use Rattle.std.specs.Prelude.{ℕ, ◌-◌, ◌≡◌, Bool, cond, List, [], ◌∷◌, ◌++◌, length, ltb, Option, Some, None, Ok, Err}
use Rattle.std.specs.Option.{option_or}
use Rattle.line.specs.declared.columns.Columns.{Columns}
use Rattle.page.specs.Page.{Page, page, put}
use Rattle.cell.specs.Text.{blanks}
use Rattle.cell.specs.declared.Put.{Put}
use Rattle.sheet.specs.Sheet.{Written, Cell, columns_of, cell_fits, cell_bytes}
use Rattle.sheet.specs.declared.Pen.{Pen}
use Rattle.sheet.specs.declared.Unwritten.TheVariants.{NoFit, NoRoom}

pub record Draft : Type 0 where
  pub page : Page
  -- none while all fit
  pub miss : Option Columns

-- what bytes and a pen are
unfoldable pub draft : List ℕ → Pen → Draft
draft bytes pen = record { page = page bytes pen.next; miss = pen.miss }

-- a name on bytes
unfoldable pub begun : List ℕ → List ℕ → Draft
begun bytes name = record { page = put (page bytes 0) name; miss = None }

-- the first field that doesn't fit, with one more that fits or doesn't
abbrev pub missed : Bool → Option Columns → Columns → Option Columns
missed fit miss at = cond fit miss (option_or miss (Some at))

-- a field is drawn in its columns: blanks up to them, and its bytes
unfoldable pub inked : Draft → Columns → List ℕ → Bool → Draft
inked d at bytes fit = record {
  page = put d.page (blanks (at.start - d.page.at) ++ bytes);
  miss = missed fit d.miss at;
}

unfoldable pub marked : Pen → Columns → Put → Pen
marked pen at put = record { next = put.next; miss = missed put.fits pen.miss at }

unfoldable pub drawn : Draft → Cell → Draft
drawn d c = inked d (columns_of c) (cell_bytes c) (cell_fits c)

unfoldable pub drawn_all : Draft → List Cell → Draft
drawn_all d [] = d
drawn_all d (c ∷ rest) = drawn_all (drawn d c) rest

-- blanks up to a column
unfoldable pub filled : Draft → ℕ → Draft
filled d column = record { page = put d.page (blanks (column - d.page.at)); miss = d.miss }

-- what is answered at the end, and every lent byte afterwards
abbrev pub ending : Option Columns → ℕ → Written
ending None room = cond (ltb room 80) (Err NoRoom) (Ok tt)
ending (Some at) room = Err (NoFit at)

abbrev pub copied : List ℕ → List ℕ → Written → List ℕ
copied old line (Ok u) = (put (page old 0) line).bytes
copied old line (Err why) = old

pub record Ends (old line : List ℕ) (miss : Option Columns) (r : Written) (new : List ℕ) : Type 0 where
  pub answers : r ≡ ending miss (length old)
  pub leaves : new ≡ copied old line r
