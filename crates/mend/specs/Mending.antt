-- What mending answers, and what it leaves in the lent bytes and words. "Refusals: 2, then 8, by the mended length; 3 isn't given here."
use Rattle.std.specs.Prelude.{ℕ, ◌≡◌, Bool, cond, ◌||◌, Option, Some, None, Result, Ok, Err, List, ◌++◌, map, length, drop, ltb}
use Rattle.std.proofs.lemmas.List.Edits.{sets}
use Rattle.lexer.specs.Refusals.{excess}
use Rattle.lexitem.specs.Answer.{refusal}
use Rattle.lexitem.specs.declared.answer.Refusal.{Refusal}
use Rattle.mend.specs.Mend.{mended}
use Rattle.mend.specs.Changes.{changes_of, word_of}
use Rattle.mend.specs.declared.Mended.{Mended}

-- whether a line is refused, for an output of so many bytes
unfoldable pub refuses : List ℕ → ℕ → Bool
refuses l room = ltb 1024 (length l) || ltb room (length (mended l))

-- the refusal, or none
unfoldable pub refusal_of : List ℕ → ℕ → Option Refusal
refusal_of l room =
    cond (ltb 1024 (length l)) (Some (refusal 2 1024 (excess (length l))))
    (cond (ltb room (length (mended l))) (Some (refusal 8 0 (length (mended l)))) None)

-- the length of the mended line and how many changes there are, if there is no refusal
abbrev pub mended_unless : List ℕ → Option Refusal → Result Mended Refusal
mended_unless l (Some r) = Err r
mended_unless l None = Ok (record { size = length (mended l); changes = length (changes_of l) })

abbrev pub answer_of : List ℕ → ℕ → Result Mended Refusal
answer_of l room = mended_unless l (refusal_of l room)

-- the answer, every lent byte and every lent word; a change past the end of the words is counted and not held
pub record Mends (l out words : List ℕ) (answer : Result Mended Refusal) (written held : List ℕ) : Type 0 where
  pub answers : answer ≡ answer_of l (length out)
  pub writes : written ≡ cond (refuses l (length out)) out (mended l ++ drop (length (mended l)) out)
  pub holds : held ≡ cond (refuses l (length out)) words (sets words 0 (map word_of (changes_of l)))
