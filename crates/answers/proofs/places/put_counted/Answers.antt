-- `answers::places::put_counted` meets its contract: sixteen rows have the places of the fields, and what is put at the front of a page that has
-- room stands there.
-- Assumes nothing.
use mathlib.Core.Path.{ap, ◌∙◌}
use mathlib.Core.List.{List}
use native.Mathlib.Omega.{arith}
use Prim.Native.Nat.{ℕ}
use lib.ListN.{length}
use Rattle.layout.specs.Places.{places_of}
use Rattle.row.specs.declared.Rows.{Rows}
use Rattle.answers.proofs.Laws.Places.{record-places, counts-short, counts-put}
use Rattle.answers.proofs.places.put_counted.Goals as goal

pub returns-then-out-count_places : goal.returns-then-out-count_places
returns-then-out-count_places c =
    let item = c.args.item in
    let all = ap (λ (r : Rows). places_of r.list) c.rows_of-rows.ensures ∙ record-places item in
    let many = c.count_places.ensures ∙ ap (λ (t : List ℕ). length t) all in
    counts-short _ item (rw many at c.if-out-count_places.true)

pub returns : goal.returns
returns c =
    let item = c.args.item in
    let room = c.well_formed in
    let all = ap (λ (r : Rows). places_of r.list) c.rows_of-rows.ensures ∙ record-places item in
    let many = c.count_places.ensures ∙ ap (λ (t : List ℕ). length t) all in
    counts-put _ item _ _ (omega arith) (rw many at c.if-out-count_places.false) (rw all at c.put_places.ensures)
