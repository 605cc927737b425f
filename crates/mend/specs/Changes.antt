-- "With it comes a list of changes, each a place, a length and what was done, neighbouring bytes with the same mend as one, so that 512 entries
-- always suffice; undoing them gives back the input's length and every byte not named."
use Rattle.std.specs.Prelude.{ℕ, suc, ◌+◌, ◌-◌, ◌*◌, Bool, false, cond, ◌&&◌, ◌||◌, List, [], ◌∷◌, ◌++◌, length, take, set, ltb, leb, eqb}
use Rattle.mend.specs.Mend.{padding}

-- ---- the changes
pub data What : Type 0 where
  replaced : What
  padded : What

pub record Change : Type 0 where
  pub place : ℕ
  pub length : ℕ
  pub what : What

-- the n bytes that end before a place; none is no change
abbrev pub change : What → ℕ → ℕ → List Change
change what at n = cond (eqb n 0) [] (record { place = at - n; length = n; what = what } ∷ [])

-- the runs of bytes of 128 or more from a place on, behind n such bytes
unfoldable pub runs : ℕ → ℕ → List ℕ → List Change
runs at n [] = change What.replaced at n
runs at n (b ∷ t) = cond (ltb b 128) (change What.replaced at n ++ runs (suc at) 0 t) (runs (suc at) (suc n) t)

-- and the padding as one change at the line's end
unfoldable pub changes_of : List ℕ → List Change
changes_of l = runs 0 0 l ++ change What.padded (length l + padding l) (padding l)

-- ---- what a change names, and undoing
abbrev pub names : Change → ℕ → Bool
names c at = leb c.place at && ltb at (c.place + c.length)

abbrev pub named : List Change → ℕ → Bool
named [] at = false
named (c ∷ rest) at = names c at || named rest at

-- blanks that were put behind the line are taken off; what stood in place of a `?` isn't known
abbrev pub undo_by : What → ℕ → List ℕ → List ℕ
undo_by What.replaced place l = l
undo_by What.padded place l = take place l

abbrev pub undo_all : List Change → List ℕ → List ℕ
undo_all [] l = l
undo_all (c ∷ rest) l = undo_all rest (undo_by c.what c.place l)

-- ---- the changes as they are held
abbrev pub what_number : What → ℕ
what_number What.replaced = 1
what_number What.padded = 2

-- a change as one word: its place, from bit 16 on its length, from bit 32 on the number of what was done
abbrev pub word : ℕ → ℕ → ℕ → ℕ
word what place n = what * 4294967296 + n * 65536 + place

abbrev pub word_of : Change → ℕ
word_of c = word (what_number c.what) c.place c.length

-- ---- the words of the helpers
-- lent words, and how many changes were noted; one past the end of the words is counted and not held
pub record Notes : Type 0 where
  pub words : List ℕ
  pub count : ℕ

abbrev pub notes : List ℕ → ℕ → Notes
notes words count = record { words = words; count = count }

abbrev pub note : Notes → ℕ → Notes
note s w = record { words = set s.words s.count w; count = s.count + 1 }

unfoldable pub note_all : Notes → List Change → Notes
note_all s [] = s
note_all s (c ∷ rest) = note_all (note s (word_of c)) rest

-- the n bytes that end before a place, by the number of what was done
unfoldable pub note_by : Notes → ℕ → ℕ → ℕ → Notes
note_by s what at n = cond (eqb n 0) s (note s (word what (at - n) n))

-- one byte further, behind a run of n
unfoldable pub stepped : Notes → ℕ → ℕ → ℕ → Notes
stepped s at n b = cond (ltb b 128) (note_by s 1 at n) s
