-- What is taken of a line by `get`, or the whole of another text where the line has no such part.
-- Assumes nothing.
use Rattle.std.proofs.Common.{ℕ, ◌<◌, ◌≤◌, ◌⊎◌, List, length, Bor, unwrap_or, Option, Some, None}
use Rattle.std.specs.Slice.{IsGetRangeResult}
use Rattle.std.specs.List.{slice_range}

pub part-or : (P : List ℕ → Type 0) (l : List ℕ) (from to : ℕ) (r : Option (Bor (List ℕ))) (other : Bor (List ℕ)) → IsGetRangeResult l from to r
    → ((to < from) ⊎ (length l < to) → P other.now) → (from ≤ to → to ≤ length l → P (slice_range l from to)) → P (unwrap_or r other).now
part-or P l from to None other h none some = none h.0
part-or P l from to (Some x) other h none some = rw h.0.2 (some h.0.0 h.0.1)
