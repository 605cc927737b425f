-- The entry that mends a line: "Packed refusals: 2; 8 (0, mended length); then 8 (0, 514) if `changes` has under 514 words. On success changes[0] is
-- the mended length, changes[1] the number of changes, and then a word each: place + length * 2^16 + what * 2^32."
use Rattle.std.specs.Prelude.{ℕ, ◌+◌, ◌≡◌, Bool, cond, ◌||◌, Option, Some, None, List, ◌∷◌, ◌++◌, map, length, drop, ltb}
use Rattle.lexitem.specs.Answer.{refusal}
use Rattle.lexitem.specs.declared.answer.Refusal.{Refusal}
use Rattle.mend.specs.Mend.{mended}
use Rattle.mend.specs.Changes.{changes_of, word_of}
use Rattle.mend.specs.Mending.{refuses, refusal_of}
use Rattle.packing.specs.Packed.{packed_as}

-- with too few words: the line's refusal, or theirs where it has none
abbrev pub or_few_words : Option Refusal → Refusal
or_few_words (Some r) = r
or_few_words None = refusal 8 0 514

-- whether nothing is mended, for an output of so many bytes and so many words
unfoldable pub refuses_for : List ℕ → ℕ → ℕ → Bool
refuses_for l room words = refuses l room || ltb words 514

-- the refusal, or none
unfoldable pub refusal_for : List ℕ → ℕ → ℕ → Option Refusal
refusal_for l room words = cond (ltb words 514) (Some (or_few_words (refusal_of l room))) (refusal_of l room)

-- the refusal as one number; 0 if there is none
abbrev pub told : Option Refusal → ℕ
told (Some r) = packed_as (r.number, r.place, r.length)
told None = 0

-- what is answered, every lent byte and every lent word afterwards
pub record MendsInto (l out words : List ℕ) (answer : ℕ) (written held : List ℕ) : Type 0 where
  pub answers : answer ≡ told (refusal_for l (length out) (length words))
  pub writes : written ≡ cond (refuses_for l (length out) (length words)) out (mended l ++ drop (length (mended l)) out)
  pub holds : held
      ≡ cond (refuses_for l (length out) (length words)) words
      (length (mended l) ∷ length (changes_of l) ∷ map word_of (changes_of l) ++ drop (2 + length (changes_of l)) words)
