-- `layout::places::put_place` meets its contract: no row but a real's has a count.
-- Assumes nothing.
use mathlib.Core.Path.{refl}
use Rattle.page.specs.Page.{put}
use Rattle.layout.specs.Places.{row_places}
use Rattle.layout.proofs.Laws.Places.{places_none}
use Rattle.layout.proofs.places.put_place.Goals as goal

pub returns-in-Real : goal.returns-in-Real
unfolding row_places
returns-in-Real c = rw c.in-Real.is c.put_byte.ensures

pub returns : goal.returns
unfolding put row_places
returns c = rw (places_none _ c.in_default.not-Real) refl
