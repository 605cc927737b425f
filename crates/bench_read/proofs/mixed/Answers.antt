-- `bench_read::mixed` meets its contract: a product and a sum that wrap are three times the sum and the value, modulo 2^64.
-- Assumes nothing.
use Rattle.std.proofs.Common.{◌≡◌, ℕ, ◌+◌, ◌*◌, ◌%◌, ◌^◌, refl, arith}
use native.Mathlib.Nat.{mod-add-mod}
use Rattle.bench_read.specs.Checksum.{mixed}
use Rattle.bench_read.proofs.mixed.Goals as goal

-- a product and a sum that wrap, one after the other, are one that wraps
tripled : (s v a r : ℕ) → a ≡ s * 3 % 2 ^ 64 → r ≡ (a + v) % 2 ^ 64 → r ≡ mixed s v
unfolding mixed
tripled s v a r e f = let three : 3 * s + v ≡ s * 3 + v = omega arith in rw (f, e, mod-add-mod (s * 3) (2 ^ 64) v, three) refl

pub returns : goal.returns
returns c = tripled c.args.sum c.args.value _ _ refl refl
