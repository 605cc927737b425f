-- "Apply it to a position: each coordinate is ((a x + b y) + c z) + d in doubles."
use Rattle.std.specs.Prelude.{Float}
use Rattle.std.specs.Float.{binary64}
use Rattle.std.specs.Float.Ieee.{add, mul}
use Rattle.transformation.specs.declared.record.Transformation.{Transformation}
use Rattle.atom.specs.declared.record.Position.{Position}
use Rattle.matrix.specs.declared.Matrix.{Matrix}

-- the product and the sum of two doubles, rounded
infix 70 ◌⊗◌
abbrev pub ◌⊗◌ : Float → Float → Float
x ⊗ y = mul binary64 x y

infix 60 ◌⊕◌
abbrev pub ◌⊕◌ : Float → Float → Float
x ⊕ y = add binary64 x y

unfoldable pub sum_of : Float → Float → Float → Float → Float → Float → Float → Float
sum_of a b c d x y z = ((a ⊗ x ⊕ b ⊗ y) ⊕ c ⊗ z) ⊕ d

abbrev pub coordinate : Transformation → Position → Float
coordinate r p = sum_of r.a r.b r.c r.d p.x p.y p.z

abbrev pub applied : Matrix → Position → Position
applied m p = record { x = coordinate m.first p; y = coordinate m.second p; z = coordinate m.third p }
