-- A byte, mended.
--     byte_kept, byte_marked      a byte below 128, and any other
-- Assumes nothing.
use Prim.Native.Nat.{ℕ, ◌<◌, ◌≤◌}
use mathlib.Core.Path.{◌≡◌}
use borrow.Author.Tests.{lt-ltb, le-ltb}
use Rattle.mend.specs.Mend.{mended_byte}

-- ---- a byte
module _ (b : ℕ) where
  pub byte_kept : b < 128 → b ≡ mended_byte b
  unfolding mended_byte
  byte_kept h = simp (lt-ltb b 128 h)

  pub byte_marked : 128 ≤ b → 63 ≡ mended_byte b
  unfolding mended_byte
  byte_marked h = simp (le-ltb b 128 h)
