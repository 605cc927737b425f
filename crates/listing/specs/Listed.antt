-- "The listing entry hands a line's refusal back with its output untouched. 8: listing longer than its lent output, place 0, bytes needed. On
-- success the listing fills the output's front and what follows it stays the same."
use Rattle.std.specs.Prelude.{ℕ, ◌≡◌, cond, List, ◌++◌, length, drop, leb, Result, Ok, Err}
use Rattle.lexer.specs.Lexed.{lexed}
use Rattle.lexer.specs.Refusals.{Input}
use Rattle.lexitem.specs.Fault.{told, faults_in}
use Rattle.lexitem.specs.declared.item.LexItem.{LexItem}
use Rattle.lexitem.specs.declared.answer.Refusal.{Refusal}
use Rattle.listing.specs.Listing.{listing_of}

-- ---- a listing on lent bytes that have so much room
abbrev pub fitted_answer : ℕ → List ℕ → Result ℕ Refusal
fitted_answer room listing =
    cond (leb (length listing) room) (Ok (length listing)) (Err (record { number = 8; place = 0; length = length listing }))

abbrev pub fitted_bytes : List ℕ → List ℕ → List ℕ
fitted_bytes before listing =
    cond (leb (length listing) (length before)) (listing ++ drop (length listing) before) before

pub record Fitted (before listing : List ℕ) (r : Result ℕ Refusal) (after : List ℕ) : Type 0 where
  pub answer : r ≡ fitted_answer (length before) listing
  pub bytes : after ≡ fitted_bytes before listing

-- ---- a line on lent bytes
-- the listing of a line that is accepted with an item
abbrev pub listing_by : Input → LexItem → List ℕ
listing_by i item = listing_of i.number i.line item (faults_in (told (lexed i).faults))

-- what is answered where there is so much room
abbrev pub listed_answer : ℕ → Input → Result LexItem Refusal → Result ℕ Refusal
listed_answer room i (Ok item) = fitted_answer room (listing_by i item)
listed_answer room i (Err r) = Err r

abbrev pub measured : ℕ → Input → Result ℕ Refusal
measured room i = listed_answer room i (lexed i).outcome

abbrev pub listed_bytes : List ℕ → Input → Result LexItem Refusal → List ℕ
listed_bytes before i (Ok item) = fitted_bytes before (listing_by i item)
listed_bytes before i (Err r) = before

-- what is answered, and every lent byte afterwards
pub record ListedInto (before : List ℕ) (i : Input) (r : Result ℕ Refusal) (after : List ℕ) : Type 0 where
  pub answer : r ≡ measured (length before) i
  pub bytes : after ≡ listed_bytes before i (lexed i).outcome
