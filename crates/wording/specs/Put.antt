-- What putting words from a place on leaves: they stand there, one behind the other, and the place behind them is answered.
use Rattle.std.specs.Prelude.{ℕ, ◌+◌, ◌≡◌, List, length}
use Rattle.std.proofs.lemmas.List.Edits.{sets}

pub record Puts (before : List ℕ) (at : ℕ) (words : List ℕ) (r : ℕ) (after : List ℕ) : Type 0 where
  pub behind : r ≡ at + length words
  pub stands : after ≡ sets before at words
