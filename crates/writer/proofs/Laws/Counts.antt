-- A record's counts are put at the front of sixteen bytes and taken from there: no record has more rows than that, and rows that show nothing
-- have no count.
-- Assumes nothing.
use Prim.Native.Nat.{ℕ}
use mathlib.Core.Path.{◌≡◌, refl, ap, ◌∙◌}
use mathlib.Core.List.{List}
use native.Mathlib.Omega.{arith}
use lib.ListN.{length}
use Rattle.page.specs.Page.{page, put}
use Rattle.row.specs.Rows.{rows_of}
use Rattle.row.specs.declared.Rows.{Rows}
use Rattle.layout.specs.Places.{row_places, places_of}
use Rattle.layout.proofs.Laws.Each.{each-padded}
use Rattle.layout.proofs.Laws.Places.{places-most}
use Rattle.cell.proofs.Laws.Put.{Front, front}
use Rattle.lexitem.specs.Describe.{fields_of}
use Rattle.lexitem.specs.declared.item.LexItem.{LexItem}
use Rattle.lexitem.proofs.Laws.Kinds.{rows_sixteen}

pub counts-put : (item : LexItem) (rows : Rows) (old new : List ℕ) (n : ℕ) → rows ≡ rows_of (fields_of item) → length old ≡ 16
    → page new n ≡ put (page old 0) (places_of rows.list) → Front new (places_of (fields_of item)) n
unfolding row_places
counts-put item rows old new n told sixteen e =
    let t = places_of (fields_of item) in
    let most = rows_sixteen item in
    let all : places_of rows.list ≡ t = ap (λ (v : Rows). places_of v.list) told ∙ each-padded row_places refl 16 (fields_of item) most in
    front old new t n (omega arith) (omega (arith, places-most (fields_of item))) (e ∙ ap (put (page old 0)) all)
