-- The words of the quick reading of a number in eight bytes, with its point at a known place. No rule of 01 is here: what is read so is
-- proved to be what the text says.
use Rattle.std.specs.Prelude.{ℕ, zero, suc, ◌+◌, ◌-◌, ◌*◌, ◌/◌, ◌%◌, ◌^◌, Bool, true, false, cond, not, ◌&&◌, List, [], ◌∷◌, ◌++◌, length, take, drop, get_or, eqb, leb, ltb}
use Rattle.std.specs.Int.Bits.{bit_and, bit_xor}

-- ---- bytes as one number
-- the first in the lowest place
abbrev pub word_of : List ℕ → ℕ
word_of [] = 0
word_of (b ∷ t) = word_of t * 256 + b

-- every one is a byte
abbrev pub bytes : List ℕ → Bool
bytes [] = true
bytes (b ∷ t) = ltb b 256 && bytes t

-- the word that bytes make; other numbers make none
unfoldable pub held_of : List ℕ → ℕ
held_of t = cond (bytes t) (word_of t) 0

-- ---- what stands before a point
-- a text behind blanks, and behind a minus or none
abbrev pub behind_blanks : ℕ → List ℕ → List ℕ
behind_blanks zero t = t
behind_blanks (suc n) t = 32 ∷ behind_blanks n t

abbrev pub behind_sign : Bool → List ℕ → List ℕ
behind_sign false t = t
behind_sign true t = 45 ∷ t

abbrev pub zeros : ℕ → List ℕ
zeros zero = []
zeros (suc k) = 48 ∷ zeros k

-- blanks, a minus or none, and digits, for which zeros stand
abbrev pub shape_bytes : ℕ → Bool → ℕ → List ℕ
shape_bytes n minus k = behind_blanks n (behind_sign minus (zeros k))

-- the bytes without the bit of the digits, 16, as a one in their places
abbrev pub others : ℕ → ℕ
others w = (0x1010_1010 - bit_and w 0x1010_1010) / 16

-- two for each of them, and one more if the byte is odd, as a minus is, summed over the places
abbrev pub guess_of : ℕ → ℕ
guess_of w = (others w * 2 + bit_and w (others w)) * 0x0101_0101 / 0x0100_0000 % 8

-- the fronts by the guess: no bytes give the guess 1, and the last front is that of every other guess
abbrev pub fronts : List (List ℕ)
fronts =
    shape_bytes 0 false 4
    ∷ shape_bytes 0 true 3
    ∷ shape_bytes 1 false 3
    ∷ shape_bytes 0 true 3
    ∷ shape_bytes 2 false 2
    ∷ shape_bytes 1 true 2
    ∷ shape_bytes 3 false 1
    ∷ []

abbrev pub front_of : ℕ → List ℕ
front_of g = get_or fronts g (shape_bytes 2 true 1)

-- a digit lies nine above 48 at most, and any other byte is the front's own: what is wanting to 127
abbrev pub slack_of : ℕ → ℕ
slack_of b = cond (eqb b 48) 118 127

abbrev pub slacks : List ℕ → List ℕ
slacks [] = []
slacks (b ∷ t) = slack_of b ∷ slacks t

-- a front in one number, the slack above the bytes; out of it the bytes and the slack with the point and three digits behind them
abbrev pub packed_of : List ℕ → ℕ
packed_of t = word_of (slacks t) * 2 ^ 32 + word_of t

abbrev pub bytes_in : ℕ → ℕ
bytes_in p = p % 0x1_0000_0000 + 0x3030_302e_0000_0000

abbrev pub slack_in : ℕ → ℕ
slack_in p = p / 0x1_0000_0000 + 0x7676_767f_0000_0000

-- a minus is the one odd byte
abbrev pub minus_of : ℕ → Bool
minus_of p = not (eqb (bit_and (bytes_in p) 0x0101_0101) 0)

-- ---- what a word says
-- digits in their places, joined to pairs and these to fours
abbrev pub pairs_of : ℕ → ℕ
pairs_of w = bit_and (w * 10 + w / 256) 0x00ff_00ff_00ff_00ff

abbrev pub fours_of : ℕ → ℕ
fours_of w = pairs_of w * 100 + pairs_of w / 65536

-- no byte has its highest bit
abbrev pub low : ℕ → Bool
low w = eqb (bit_and w 0x8080_8080_8080_8080) 0

abbrev pub none : ℕ
none = 0xffff_ffff_ffff_ffff

abbrev pub signed_as : Bool → ℕ → ℕ
signed_as false n = n
signed_as true n = n + 2 ^ 63

-- the two tests by a front, and what is read if both hold
abbrev pub code_by : ℕ → ℕ → ℕ
code_by p over = cond (low over) (cond (low (over + slack_in p)) (signed_as (minus_of p) (fours_of over)) none) none

unfoldable pub code_of : ℕ → ℕ
code_of w = let p = packed_of (front_of (guess_of (w % 0x1_0000_0000))) in code_by p (bit_xor w (bytes_in p))

-- whether it has a minus, the number before the point, and the one behind it
abbrev pub minus_in : ℕ → Bool
minus_in c = leb (2 ^ 63) c

abbrev pub front_in : ℕ → ℕ
front_in c = c % 65536

abbrev pub behind_in : ℕ → ℕ
behind_in c = c / 0x1_0000_0000 % 65536

-- ---- texts as such words
-- a text of so many columns, filled up; other texts have no word
abbrev pub filled_of : ℕ → List ℕ → List ℕ → ℕ
filled_of n t whole = cond (eqb (length t) n) (held_of whole) 0

abbrev pub eight_of : List ℕ → ℕ
eight_of t = filled_of 8 t t

abbrev pub six_of : List ℕ → ℕ
six_of t = filled_of 6 t (32 ∷ t ++ 48 ∷ [])

abbrev pub four_of : List ℕ → ℕ
four_of t = filled_of 4 t (t ++ 46 ∷ zeros 3)

abbrev pub five_of : List ℕ → ℕ
five_of t = filled_of 5 t (take 4 t ++ 46 ∷ (drop 4 t ++ 48 ∷ 48 ∷ []))
