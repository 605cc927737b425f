-- The contract of `list_line` leaves nothing free.
--     listed-one          two answers that it allows coincide, with every lent byte
--     listed-untouched    lent bytes are as they were where a line is refused, by its own refusals or for its length
-- Assumes nothing.
use Prim.Native.Nat.{ℕ}
use mathlib.Core.Path.{◌≡◌, refl, sym, ◌∙◌}
use mathlib.Core.List.{List}
use Rattle.std.specs.Prelude.{Result, Ok, Err}
use lib.ListN.{length}
use Rattle.lexer.specs.Lexed.{lexed}
use Rattle.lexer.specs.Refusals.{Input}
use Rattle.lexitem.specs.declared.answer.Refusal.{Refusal}
use Rattle.lexitem.specs.declared.item.LexItem.{LexItem}
use Rattle.listing.specs.Listed.{ListedInto, listed_answer, listed_bytes, listing_by}
use Rattle.listing.proofs.Laws.Fitted.{untouched}

module _ {before : List ℕ} {i : Input} {r s : Result ℕ Refusal} {after other : List ℕ} where
  pub listed-one : ListedInto before i r after → ListedInto before i s other → (r ≡ s) × (after ≡ other)
  listed-one a b = (a.answer ∙ sym b.answer, a.bytes ∙ sym b.bytes)

-- ---- what a refusal says of the lent bytes
as_before : (before : List ℕ) (i : Input) (o : Result LexItem Refusal) (x : Refusal) → listed_answer (length before) i o ≡ Err x → listed_bytes before i o ≡ before
as_before before i (Ok y) x e = untouched before (listing_by i y) x (sym e)
as_before before i (Err z) x e = refl

pub listed-untouched : {before : List ℕ} {i : Input} {after : List ℕ} (x : Refusal) → ListedInto before i (Err x) after → after ≡ before
listed-untouched {before} {i} x h = h.bytes ∙ as_before before i (lexed i).outcome x (sym h.answer)
