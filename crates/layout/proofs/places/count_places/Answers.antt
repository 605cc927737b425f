-- `layout::places::count_places` meets its contract: on a page of no bytes the place of the next one is the count.
-- Assumes nothing.
use mathlib.Core.Path.{ap, ◌∙◌}
use native.Mathlib.Omega.{arith}
use Rattle.page.specs.Page.{Page}
use Rattle.page.proofs.Laws.Page.{put_count}
use Rattle.layout.specs.Places.{places_of}
use Rattle.layout.proofs.Laws.Places.{places-most}
use Rattle.layout.proofs.places.count_places.Goals as goal

pub returns : goal.returns
returns c =
    let many = c.well_formed in
    let few = places-most c.args.rows in
    ap (λ (p : Page). p.at) c.put_places.ensures ∙ put_count _ (places_of c.args.rows) (omega arith)
