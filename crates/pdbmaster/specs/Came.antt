-- "A program for people: standard input .. A whole file of any size." No contract can say which bytes a read brings or what a write does. So what is
-- known has to be what parts left that came one behind the other, and what is handed to `write` the verdict of the whole that they make.
use Rattle.std.specs.Prelude.{ℕ, ◌+◌, ◌*◌, ◌^◌, ◌<◌, ◌≡◌, List, length}
use Rattle.audit.specs.Cuts.{Progress, behind_parts, start}
use Rattle.carry.specs.Pieces.{joined}
use Rattle.verdict.specs.Verdict.{verdict}

-- the most bytes that one read brings
abbrev pub most : ℕ
most = 65536

-- it is what parts left, and with so many reads more every place still has a number
pub record Came (x : Progress) (reads : ℕ) : Type 0 where
  pub parts : List (List ℕ)
  pub leave : x ≡ behind_parts start parts
  pub few : length (joined parts) + most * reads < 2 ^ 64

-- a text is all that there is to print for the whole of them
pub record Tells (x : Progress) (text : List ℕ) : Type 0 where
  pub parts : List (List ℕ)
  pub leave : x ≡ behind_parts start parts
  pub says : text ≡ verdict (joined parts)
