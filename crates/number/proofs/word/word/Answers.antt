-- `number::word::word` meets its contract: what it is handed are bytes, and its halves are their words.
-- Assumes nothing.
use native.Mathlib.Omega.{arith}
use mathlib.Core.List.{[], ◌∷◌}
use Rattle.number.proofs.Laws.Word.{Bytes, held-is}
use Rattle.number.proofs.word.word.Goals as goal

pub returns : goal.returns
returns c =
    let a = c.args in
    let f = c.ranges in
    let lower = a.a ∷ a.b ∷ a.c ∷ a.d ∷ [] in
    let upper = a.e ∷ a.f ∷ a.g ∷ a.h ∷ [] in
    let whole = a.a ∷ a.b ∷ a.c ∷ a.d ∷ upper in
    let behind : Bytes upper = (f.e.fits, (f.f.fits, (f.g.fits, (f.h.fits, tt)))) in
    let each : Bytes whole = (f.a.fits, (f.b.fits, (f.c.fits, (f.d.fits, behind)))) in
    let front : Bytes lower = (f.a.fits, (f.b.fits, (f.c.fits, (f.d.fits, tt)))) in
    omega (arith, held-is whole each, held-is lower front, held-is upper behind, c.half.ensures, c.half-2.ensures)
