-- "C hosts call the listing entry with numbers and byte slices alone, and get the bytes written, or 0 on a refusal (no listing is empty); three
-- more calls with the same arguments give the refusal's number, place and length, all 0 where there is none."
use Rattle.std.specs.Prelude.{ℕ, ◌≡◌, List, length, Result, Ok, Err}
use Rattle.lexer.specs.Lexed.{lexed}
use Rattle.lexer.specs.Refusals.{Input}
use Rattle.lexitem.specs.declared.answer.Refusal.{Refusal}
use Rattle.listing.specs.Listed.{measured, listed_bytes}

-- the bytes written, or 0
abbrev pub written_by : Result ℕ Refusal → ℕ
written_by (Ok n) = n
written_by (Err r) = 0

-- the refusal, or all 0
abbrev pub refusal_by : Result ℕ Refusal → Refusal
refusal_by (Ok n) = record { number = 0; place = 0; length = 0 }
refusal_by (Err r) = r

-- those of a line whose listing has so much room
abbrev pub written_for : ℕ → Input → ℕ
written_for room i = written_by (measured room i)

abbrev pub refusal_for : ℕ → Input → Refusal
refusal_for room i = refusal_by (measured room i)

abbrev pub number_of : Refusal → ℕ
number_of r = r.number

abbrev pub place_of : Refusal → ℕ
place_of r = r.place

abbrev pub length_of : Refusal → ℕ
length_of r = r.length

-- what the first call answers, and every lent byte afterwards
pub record WrittenInto (before : List ℕ) (i : Input) (r : ℕ) (after : List ℕ) : Type 0 where
  pub answer : r ≡ written_for (length before) i
  pub bytes : after ≡ listed_bytes before i (lexed i).outcome

-- what the others answer, a part of the refusal, and the lent bytes as they were
pub record Told (part : Refusal → ℕ) (before : List ℕ) (i : Input) (r : ℕ) (after : List ℕ) : Type 0 where
  pub answer : r ≡ part (refusal_for (length before) i)
  pub bytes : after ≡ before
