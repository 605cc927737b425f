-- The bound of 2026-12: a coordinate is near the exact sum of exact products of what is held.
--     coordinate-near      of one row
--     applied-near         of the three of a matrix
-- Assumes nothing.
use Prim.Native.Nat.{ℕ, zero, suc, ◌*◌, ◌^◌}
use mathlib.Core.Path.{◌≡◌, refl}
use mathlib.Core.Bool.{Bool, true, false}
use native.Mathlib.Nat.{zero-mul}
use lib.IntN.{pos, ◌*ℤ◌}
use lib.Ieee.{Float, unlike}
use Rattle.number.specs.Whole.{with_sign}
use Rattle.transformation.specs.declared.record.Transformation.{Transformation}
use Rattle.atom.specs.declared.record.Position.{Position}
use Rattle.matrix.specs.declared.Matrix.{Matrix}
use Rattle.matrix.specs.Apply.{sum_of, coordinate, applied}
use Rattle.matrix.specs.Bound.{Held, NearSum, NearExact, HeldRow, HeldPosition, whole_of}
use Rattle.matrix.proofs.Laws.Chain.{chain-near}
use Rattle.matrix.proofs.Laws.Integers.{in_integers, signed_product}

fourth : (s : Bool) (m k : ℕ) → with_sign s m *ℤ pos k ≡ with_sign s (m * k)
fourth false m k = refl
fourth true zero k = rw (zero-mul k) refl
fourth true (suc m) k = refl

-- A X + B Y + C Z + D 2 ^ 126, over 2 ^ 252
sum-exact : (a b c d x y z : Float) (A : Held a) (B : Held b) (C : Held c) (D : Held d) (X : Held x) (Y : Held y) (Z : Held z)
    → NearSum (sum_of a b c d x y z) (whole_of A *ℤ whole_of X) (whole_of B *ℤ whole_of Y) (whole_of C *ℤ whole_of Z) (whole_of D *ℤ pos (2 ^ 126))
sum-exact a b c d x y z A B C D X Y Z =
    rw (
      signed_product A.is_minus X.is_minus A.parts X.parts,
      signed_product B.is_minus Y.is_minus B.parts Y.parts,
      signed_product C.is_minus Z.is_minus C.parts Z.parts,
      fourth D.is_minus D.parts (2 ^ 126),
    )
    (in_integers (sum_of a b c d x y z) (unlike A.is_minus X.is_minus) (A.parts * X.parts) (unlike B.is_minus Y.is_minus) (B.parts * Y.parts)
    (unlike C.is_minus Z.is_minus) (C.parts * Z.parts) D.is_minus (D.parts * 2 ^ 126)
    (chain-near a b c d x y z A B C D X Y Z))

pub coordinate-near : (r : Transformation) (p : Position) (h : HeldRow r) (k : HeldPosition p) → NearExact (coordinate r p) h k
coordinate-near r p h k =
    sum-exact r.a r.b r.c r.d p.x p.y p.z h.a h.b h.c h.d k.x k.y k.z

pub applied-near : (m : Matrix) (p : Position) (f : HeldRow m.first) (s : HeldRow m.second) (t : HeldRow m.third) (k : HeldPosition p)
    → NearExact (applied m p).x f k × NearExact (applied m p).y s k × NearExact (applied m p).z t k
applied-near m p f s t k = (coordinate-near m.first p f k, coordinate-near m.second p s k, coordinate-near m.third p t k)
