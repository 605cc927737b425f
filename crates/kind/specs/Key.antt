-- Names as numbers: a text's bytes are the digits of a number in base 256, so that one look at the number tells a name. No rule of 01 is here.
use Rattle.std.specs.Prelude.{ℕ, ◌+◌, ◌*◌, cond, List, [], ◌∷◌, eqb, get_or}
use Rattle.kind.specs.Kind.{Named}
use Rattle.kind.specs.declared.Kind.{Kind}
use Rattle.kind.specs.declared.Kind.TheVariants.{Empty}

-- the number of a text, behind those bytes that make m
abbrev pub key_from : ℕ → List ℕ → ℕ
key_from m [] = m
key_from m (b ∷ t) = key_from (m * 256 + b) t

abbrev pub key_of : List ℕ → ℕ
key_of t = key_from 0 t

-- a text's first four bytes and the two behind them, the first of each the last digit: so a processor has them from memory at once
abbrev pub four_of : List ℕ → ℕ
four_of t = key_of (get_or t 3 0 ∷ get_or t 2 0 ∷ get_or t 1 0 ∷ get_or t 0 0 ∷ [])

abbrev pub two_of : List ℕ → ℕ
two_of t = key_of (get_or t 5 0 ∷ get_or t 4 0 ∷ [])

-- the kind of the first name with a number
abbrev pub kind_by_key : ℕ → List Named → Kind
kind_by_key key [] = Empty
kind_by_key key (n ∷ t) = cond (eqb key (key_of n.name)) n.kind (kind_by_key key t)
