-- Turns and ends of the loop that puts so many of one byte: many-next, many-done.
-- Assumes nothing.
use Prim.Native.Nat.{ℕ, zero, suc, ◌-◌, ◌≤◌, ◌<◌}
use mathlib.Core.Path.{◌≡◌}
use mathlib.Core.List.{[], ◌∷◌}
use native.Mathlib.Omega.{arith}
use lib.ListN.{replicate}
use Rattle.page.specs.Page.{Page, put}
use Rattle.page.proofs.Laws.Page.{put_step}

module _ (b : ℕ) (p q e : Page) where
  pub many-next : (left : ℕ) → 0 < left → q ≡ put p (b ∷ []) → put p (replicate left b) ≡ e → put q (replicate (left - 1) b) ≡ e
  many-next zero h f v = absurd (omega arith)
  many-next (suc k) h f v = let s : suc k - 1 ≡ k = omega arith in rw s (put_step p q e (b ∷ []) (replicate k b) f v)

pub many-done : (b : ℕ) (p e : Page) (left : ℕ) → left ≤ 0 → put p (replicate left b) ≡ e → p ≡ e
unfolding put
many-done b p e zero h v = v
many-done b p e (suc k) h v = absurd (omega arith)
