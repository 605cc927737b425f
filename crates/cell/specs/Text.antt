-- "A real goes out .. with a digit before the point", and "all else right-aligned".
use Rattle.std.specs.Prelude.{ℕ, zero, suc, ◌+◌, ◌-◌, ◌/◌, ◌%◌, ◌^◌, Bool, true, false, List, [], ◌∷◌, ◌++◌, length}
use Rattle.page.specs.Numerals.{decimal}

-- the last k digits of a number in front of a text
unfoldable pub last_digits : ℕ → ℕ → List ℕ → List ℕ
last_digits zero n t = t
last_digits (suc k) n t = last_digits k (n / 10) ((48 + n % 10) ∷ t)

-- N over 10 ^ q: the digits of N with a point q from the end, and a digit before the point at least; without places there is no point
unfoldable pub pointed : ℕ → ℕ → List ℕ
pointed zero n = decimal n
pointed (suc q) n = decimal (n / 10 ^ suc q) ++ 46 ∷ last_digits (suc q) n []

abbrev pub behind_minus : Bool → List ℕ → List ℕ
behind_minus false t = t
behind_minus true t = 45 ∷ t

unfoldable pub fixed : ℕ → Bool → ℕ → List ℕ
fixed q s n = behind_minus s (pointed q n)

unfoldable pub blanks : ℕ → List ℕ
blanks zero = []
blanks (suc k) = 32 ∷ blanks k

-- a text at the right of w columns
unfoldable pub right : ℕ → List ℕ → List ℕ
right w t = blanks (w - length t) ++ t
