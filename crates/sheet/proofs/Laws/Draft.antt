-- Laws of drawing a line.
--     inked-step                           a field by its three calls: blanks, the field itself, the pen
--     fill_none                            no blanks up to a column that is behind
--     ends-line                            a line at the end, which is cut off where the bytes end
--     drawn-from, -one, -more              what was drawn so far, with one field behind it, or several
-- Assumes nothing.
use mathlib.Core.Path.{◌≡◌, refl, sym, ap, ◌∙◌}
use Prim.Native.Nat.{ℕ, ◌-◌, ◌^◌, ◌≤◌, ◌<◌, min}
use native.Mathlib.Omega.{arith}
use mathlib.Core.List.{List, [], ◌∷◌, ◌++◌}
use borrow.Author.Tests.{le-ltb}
use lib.ListN.{length, take, drop}
use native.Mathlib.Nat.{zero-add}
use Rattle.std.specs.Prelude.{None, Ok}
use Rattle.page.specs.Page.{Page, page, put}
use Rattle.page.proofs.Laws.Page.{put_then, put_over}
use Rattle.cell.specs.Cell.{Puts}
use Rattle.cell.specs.Text.{blanks}
use Rattle.cell.specs.declared.Put.{Put}
use Rattle.sheet.specs.Sheet.{Cell, columns_of, cell_fits, cell_bytes}
use Rattle.sheet.specs.Draft.{Draft, draft, inked, marked, drawn, drawn_all, Ends}
use Rattle.sheet.specs.declared.Pen.{Pen}

-- ---- a field
pub inked-step : (old mid new : List ℕ) (pen r : Pen) (c : Cell) (start : ℕ) (p : Put)
    → page mid start ≡ put (page old pen.next) (blanks ((columns_of c).start - pen.next)) → Puts (page mid start) (cell_bytes c) (cell_fits c) new p
    → r ≡ marked pen (columns_of c) p
    → draft new r ≡ drawn (draft old pen) c
unfolding draft drawn inked marked
inked-step old mid new pen r c start p b h e =
    rw e (rw (h.tells, put_then (page old pen.next) (page mid start) (page new p.next) (blanks ((columns_of c).start - pen.next)) (cell_bytes c) b h.puts) refl)

pub fill_none : (p : Page) (column next : ℕ) → column ≤ next → p ≡ put p (blanks (column - next))
unfolding blanks put
fill_none p column next h = let z : column - next ≡ 0 = omega arith in rw z refl

-- ---- the end
pub ends-line : (old line new : List ℕ) (most : ℕ) → 80 ≤ length old → length old < 2 ^ 64 → most ≡ min (length line) (length old)
    → new ≡ take most line ++ drop most old → Ends old line None (Ok tt) new
ends-line old line new most room short cut e = record {
  answers = rw (le-ltb (length old) 80 room) refl;
  leaves = e ∙ sym (put_over old line 0 most short (omega arith) (omega (arith, cut)) ∙ ap (λ (n : ℕ). take most line ++ drop n old) (zero-add most));
}

-- ---- fields behind fields
pub drawn-from : (x d : Draft) → x ≡ d → x ≡ drawn_all d []
unfolding drawn_all
drawn-from x d e = e

drawn-append : (d : Draft) (a b : List Cell) → drawn_all (drawn_all d a) b ≡ drawn_all d (a ++ b)
unfolding drawn_all
drawn-append d [] b = refl
drawn-append d (c ∷ a) b = drawn-append (drawn d c) a b

module _ (x d e : Draft) (a : List Cell) where
  pub drawn-more : (b : List Cell) → x ≡ drawn_all d b → d ≡ drawn_all e a → x ≡ drawn_all e (a ++ b)
  drawn-more b f g = f ∙ ap (λ (z : Draft). drawn_all z b) g ∙ drawn-append e a b

  pub drawn-one : (c : Cell) → x ≡ drawn d c → d ≡ drawn_all e a → x ≡ drawn_all e (a ++ c ∷ [])
  unfolding drawn_all
  drawn-one c f g = drawn-more (c ∷ []) f g
