-- A page is lent bytes and the place of the next byte. A byte put past the end changes nothing and still counts, and the count stops
-- at 2^64-1: so anything can be put anywhere, and putting on one byte measures what would be put on many.
use Rattle.std.specs.Prelude.{ℕ, ◌+◌, ◌-◌, ◌^◌, min, List, [], ◌∷◌, set}

pub record Page : Type 0 where
  pub bytes : List ℕ
  pub at : ℕ

abbrev pub page : List ℕ → ℕ → Page
page bytes at = record { bytes = bytes; at = at }

-- the page with one byte put at its place
unfoldable pub put_byte : Page → ℕ → Page
put_byte p b = record { bytes = set p.bytes p.at b; at = min (p.at + 1) (2 ^ 64 - 1) }

-- the page with bytes put on it, one behind the other
unfoldable pub put : Page → List ℕ → Page
put p [] = p
put p (b ∷ t) = put (put_byte p b) t
