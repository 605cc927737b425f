-- `number::word::half` meets its contract: what it is handed are bytes.
-- Assumes nothing.
use native.Mathlib.Omega.{arith}
use mathlib.Core.List.{[], ◌∷◌}
use Rattle.number.proofs.Laws.Word.{Bytes, held-is}
use Rattle.number.proofs.word.half.Goals as goal

pub returns : goal.returns
returns c =
    let a = c.args in
    let f = c.ranges in
    let t = a.a ∷ a.b ∷ a.c ∷ a.d ∷ [] in
    let each : Bytes t = (f.a.fits, (f.b.fits, (f.c.fits, (f.d.fits, tt)))) in
    omega (arith, held-is t each)
