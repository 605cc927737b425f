-- The entries that hold a file against its MASTER line: "The first answers 0, or the number 10, 11 or 12 alone, or 8 if `found` has under 25 words,
-- tested last. The other two tell place and length of 10 to 12, and 0 otherwise. On success found[0] has bit n set if the n-th MASTER number (from 0)
-- differs, found[1] to [12] are what was counted, found[13] to [24] what MASTER says."
use Rattle.std.specs.Prelude.{ℕ, ◌≡◌, cond, List, ◌++◌, length, drop, ltb, Ok, Err}
use Rattle.audit.specs.Found.{found_in_of}
use Rattle.audit.specs.Audit.{Checked}

-- the number that is answered, where there is room for so many words
abbrev pub finding : Checked → ℕ → ℕ
finding (Err r) room = r.number
finding (Ok c) room = cond (ltb room 25) 8 0

-- the lent words afterwards
abbrev pub findings : Checked → List ℕ → List ℕ
findings (Err r) old = old
findings (Ok c) old = cond (ltb (length old) 25) old (found_in_of c ++ drop 25 old)

-- what is answered, and every lent word afterwards
pub record Finds (old : List ℕ) (checked : Checked) (answer : ℕ) (new : List ℕ) : Type 0 where
  pub answers : answer ≡ finding checked (length old)
  pub leaves : new ≡ findings checked old

abbrev pub place_of : Checked → ℕ
place_of (Err r) = r.place
place_of (Ok c) = 0

abbrev pub length_of : Checked → ℕ
length_of (Err r) = r.length
length_of (Ok c) = 0
