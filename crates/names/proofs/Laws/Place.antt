-- Laws of the kind that a kind goes by, by the code's tests.
--     family_hetatm, -first, -scale, -mtrix, -own     the kind that a kind goes by
-- Assumes nothing.
use Prim.Native.Nat.{ℕ, ◌≤◌, ◌<◌}
use mathlib.Core.Path.{◌≡◌, refl}
use native.Mathlib.Omega.{arith}
use borrow.Author.Tests.{eq-eqb, ne_eqb, lt-ltb, le-ltb}
use Rattle.names.specs.Names.{family_of}

module _ (n : ℕ) where
  pub family_hetatm : n ≡ 4 → 3 ≡ family_of n
  family_hetatm h = rw (eq-eqb n 4 h) refl

  module _ (h : n ≡ 4 → ⊥) where
    pub family_first : n < 7 → n ≡ family_of n
    family_first l = rw (ne_eqb n 4 h, lt-ltb n 7 l) refl

    pub family_scale : 7 ≤ n → n < 13 → 7 ≡ family_of n
    family_scale k l = rw (ne_eqb n 4 h, le-ltb n 7 k, lt-ltb n 13 l) refl

    pub family_mtrix : 13 ≤ n → n < 16 → 13 ≡ family_of n
    family_mtrix k l = rw (ne_eqb n 4 h, le-ltb n 7 (omega arith), le-ltb n 13 k, lt-ltb n 16 l) refl

    pub family_own : 16 ≤ n → n ≡ family_of n
    family_own k = rw (ne_eqb n 4 h, le-ltb n 7 (omega arith), le-ltb n 13 (omega arith), le-ltb n 16 k) refl
