-- Every remark number is known to a table of ones.
--     known-none     a number of three columns has no fault for that
-- Assumes nothing.
use Prim.Native.Nat.{ℕ, ◌-◌, ◌^◌, ◌≤◌, ◌<◌}
use mathlib.Core.Path.{◌≡◌, refl}
use mathlib.Core.Bool.{Bool, true, false, cond}
use mathlib.Core.List.{List, []}
use native.Mathlib.Omega.{arith}
use native.Mathlib.Nat.{pow-le-pow_right}
use lib.Dec.{ltb, lit<}
use lib.ListN.{length, take, drop, replicate, length-take, get_or-replicate}
use Rattle.std.specs.Prelude.{Option, Some, None, unwrap_or}
use Rattle.field.specs.Number.{unsigned_at}
use Rattle.field.specs.Remark.{is_known, known_faults}
use Rattle.line.specs.Columns.{part_of}
use Rattle.line.specs.declared.columns.Columns.{Columns}
use Rattle.number.specs.Whole.{unsigned_of}
use Rattle.number.proofs.Laws.Width.{unsigned-below}

module _ (l : List ℕ) (at : Columns) where
  part-most : length (part_of l at) ≤ at.end - at.start
  unfolding part_of
  part-most = go (ltb (length l) at.end)
    where
      go : (b : Bool) → length (cond b [] (take (at.end - at.start) (drop at.start l))) ≤ at.end - at.start
      go true = omega arith
      go false = simp length-take (omega arith)

  three-below : at.end - at.start ≤ 3 → unsigned_at l at < 1000
  unfolding unsigned_at
  three-below h = go (unsigned_of (part_of l at)) refl
    where
      go : (v : Option ℕ) → unsigned_of (part_of l at) ≡ v → unwrap_or v 0 < 1000
      go (Some n) e =
          let below = unsigned-below (part_of l at) e in
          let few : length (part_of l at) ≤ 3 = omega (arith, part-most) in
          let most : 10 ^ length (part_of l at) ≤ 10 ^ 3 = pow-le-pow_right (lit< tt) few in
          omega arith
      go None e = lit< tt

  pub known-none : at.end - at.start ≤ 3 → known_faults (replicate 1000 1) (unsigned_at l at) at ≡ []
  unfolding known_faults is_known
  known-none h = rw (get_or-replicate {A = ℕ} 1000 (unsigned_at l at) 1 0 (three-below h)) refl
