-- What is held behind bytes stands for the piece that they leave.
--     holds-free     with nothing held before them: what stands behind their last LF
--     holds-rest     without an LF among them: all
-- Assumes nothing.
use Prim.Native.Nat.{ℕ}
use mathlib.Core.Path.{◌≡◌}
use mathlib.Core.Bool.{false}
use mathlib.Core.List.{List, []}
use lib.ListN.{length, drop}
use Rattle.carry.specs.Held.{most_kept, State, begun, absorbed}
use Rattle.carry.specs.Pieces.{left}
use Rattle.carry.specs.Whole.{ends, whole_length}
use Rattle.carry.proofs.Laws.First.{before-all}
use Rattle.carry.proofs.Laws.Held.{Holds, holds-begun, holds-absorbed}
use Rattle.carry.proofs.Laws.Whole.{whole-rest, left-free, left-all}

pub holds-free : (n : ℕ) (kept t : List ℕ) → length kept ≡ most_kept → Holds (left [] t) n (absorbed (begun n kept) (drop (whole_length t) t))
holds-free n kept t h =
    let rest = drop (whole_length t) t in
    let some = holds-absorbed [] n (begun n kept) rest (holds-begun n kept h) in
    rw (left-free t) (rw (before-all rest (whole-rest t)) at some)

pub holds-rest : (p : List ℕ) (n : ℕ) (s : State) (t : List ℕ) → Holds p n s → ends t ≡ false → Holds (left p t) n (absorbed s t)
holds-rest p n s t h e = rw (left-all p t e) (rw (before-all t e) at (holds-absorbed p n s t h))
