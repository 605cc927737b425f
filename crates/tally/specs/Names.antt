-- "It counts by the first six bytes: REMARK; HET; HELIX; SHEET; TURN; SITE; ORIGX, SCALE and MTRIX rows together; ATOM with HETATM; TER; CONECT;
-- SEQRES. The second MASTER number must be 0. Lines of three to five bytes count as if blanks followed to six." No name counts for the second
-- number, and the rows are the nine names that end in 1, 2 and 3.
use Rattle.std.specs.Prelude.{ℕ, suc, Bool, cond, List, [], ◌∷◌, length, ltb, eqb, Option, Some, None}
use Prim.Native.String.{String}
use Rattle.kind.specs.Key.{key_of}
use Rattle.kind.specs.Kind.{same}
use Rattle.line.specs.Bytes.{bytes}

-- the first n bytes of a line, as if blanks followed it
abbrev pub padded : ℕ → List ℕ → List ℕ
padded ℕ.zero l = []
padded (suc n) [] = 32 ∷ padded n []
padded (suc n) (b ∷ t) = b ∷ padded n t

-- a name, and the place in MASTER of the number that counts its lines, from 0
pub record Counted : Type 0 where
  pub name : List ℕ
  pub number : ℕ

infix 70 ◌counts◌
abbrev ◌counts◌ : String → ℕ → Counted
s counts n = record { name = bytes s; number = n }

abbrev pub names : List Counted
names =
    "REMARK" counts 0
    ∷ "HET   " counts 2
    ∷ "HELIX " counts 3
    ∷ "SHEET " counts 4
    ∷ "TURN  " counts 5
    ∷ "SITE  " counts 6
    ∷ "ORIGX1" counts 7
    ∷ "ORIGX2" counts 7
    ∷ "ORIGX3" counts 7
    ∷ "SCALE1" counts 7
    ∷ "SCALE2" counts 7
    ∷ "SCALE3" counts 7
    ∷ "MTRIX1" counts 7
    ∷ "MTRIX2" counts 7
    ∷ "MTRIX3" counts 7
    ∷ "ATOM  " counts 8
    ∷ "HETATM" counts 8
    ∷ "TER   " counts 9
    ∷ "CONECT" counts 10
    ∷ "SEQRES" counts 11
    ∷ []

-- the place of the first name that a text is, if it is one
abbrev pub number_by : List ℕ → List Counted → Option ℕ
number_by text [] = None
number_by text (n ∷ t) = cond (same text n.name) (Some n.number) (number_by text t)

-- the place of the number that counts a line, if one does
unfoldable pub number_of : List ℕ → Option ℕ
number_of l = cond (ltb (length l) 3) None (number_by (padded 6 l) names)

-- a MASTER line: by its first six bytes, so that the six alone are one
unfoldable pub is_master : List ℕ → Bool
is_master l = same (padded 6 l) (bytes "MASTER")

-- ---- the word of a helper
-- the same by the numbers that the names are, their bytes being the digits
abbrev pub number_by_key : ℕ → List Counted → Option ℕ
number_by_key key [] = None
number_by_key key (n ∷ t) = cond (eqb key (key_of n.name)) (Some n.number) (number_by_key key t)
