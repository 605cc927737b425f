-- "One byte for each R field of the record, ascending by column, at the front of out; answers how many; 0 and an untouched output if the line is
-- refused, has no R field, or out is shorter."
use Rattle.std.specs.Prelude.{ℕ, ◌≡◌, cond, List, [], ◌++◌, length, drop, ltb, Result, Ok, Err}
use Rattle.layout.specs.Places.{places_of}
use Rattle.lexer.specs.Lexed.{lexed}
use Rattle.lexer.specs.Refusals.{Input}
use Rattle.lexitem.specs.Describe.{fields_of}
use Rattle.lexitem.specs.declared.answer.Refusal.{Refusal}
use Rattle.lexitem.specs.declared.item.LexItem.{LexItem}

abbrev pub places_by : Result LexItem Refusal → List ℕ
places_by (Ok item) = places_of (fields_of item)
places_by (Err r) = []

-- the places of a line's record
abbrev pub places_for : Input → List ℕ
places_for i = places_by (lexed i).outcome

-- what is answered for places that are to go to the front of lent bytes, and every lent byte afterwards
pub record Counts (before places : List ℕ) (r : ℕ) (after : List ℕ) : Type 0 where
  pub answer : r ≡ cond (ltb (length before) (length places)) 0 (length places)
  pub bytes : after ≡ cond (ltb (length before) (length places)) before (places ++ drop (length places) before)
