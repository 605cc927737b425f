-- The rows of the groups.
--     groups-next, groups-end     a turn of the loop that puts them, and its end
-- Assumes nothing.
use Prim.Native.Nat.{ℕ, suc, ◌+◌, ◌-◌, ◌≤◌, ◌<◌}
use mathlib.Core.Path.{◌≡◌}
use mathlib.Core.List.{List}
use native.Mathlib.Numerals.{add-one}
use native.Mathlib.Omega.{arith}
use Rattle.page.specs.Page.{Page, put}
use Rattle.page.proofs.Laws.Page.{put_step}
use Rattle.ledger.specs.Summary.{group_row, group_rows}

module _ (ws : List ℕ) (g : ℕ) (p e : Page) (v : put p (group_rows ws g (20 - g)) ≡ e) where
  pub groups-next : (q : Page) → g < 20 → q ≡ put p (group_row ws g) → put q (group_rows ws (g + 1) (20 - (g + 1))) ≡ e
  unfolding group_rows
  groups-next q h f =
      let n : 20 - g ≡ suc (20 - suc g) = omega arith in
      rw (add-one g) (put_step p q e (group_row ws g) (group_rows ws (suc g) (20 - suc g)) f (rw n at v))

  pub groups-end : 20 ≤ g → p ≡ e
  unfolding group_rows put
  groups-end h = let n : 20 - g ≡ 0 = omega arith in rw n at v
