-- "Faults by kind of field, the first and last line of each, and what most likely happened where a rule can tell": what a summary needs, counted line
-- by line in 69 words.
--     0 lines                        5 ATOM and HETATM lines whose y or z is text of the wrong sort
--     1 records                      6 whether there was an END line
--     2 lines with faults            7 whether the last line is cut
--     3 refused lines                8 whether a line has a CR inside it
--     4 ATOM and HETATM lines        9 + 3 g how many fields of the group g weren't read, 10 + 3 g and 11 + 3 g the first and the last line with one
-- A count stops at 2^64-1, and no file has so many lines.
use Rattle.std.specs.Prelude.{ℕ, ◌+◌, ◌-◌, ◌*◌, ◌^◌, min, Bool, false, cond, not, ◌&&◌, ◌||◌, List, [], ◌∷◌, length, get_or, set, take, eqb, leb, ltb, Result, Ok, Err}
use Rattle.kind.specs.Kind.{number_of}
use Rattle.kind.specs.declared.Kind.{Kind}
use Rattle.lexitem.specs.declared.answer.Answer.{Answer}
use Rattle.lexitem.specs.declared.fault.LineFaults.{LineFaults}
use Rattle.lexitem.specs.declared.answer.Refusal.{Refusal}
use Rattle.lexitem.specs.declared.item.LexItem.{LexItem}
use Rattle.line.specs.Faults as faults
use Rattle.line.specs.declared.fault.Fault.{Fault}
use Rattle.names.specs.Names.{group_of}

-- ---- a word
abbrev pub word : List ℕ → ℕ → ℕ
word ws n = get_or ws n 0

-- with so much more
unfoldable pub added : List ℕ → ℕ → ℕ → List ℕ
added ws n more = set ws n (min (word ws n + more) (2 ^ 64 - 1))

-- one that stays 1 once it is
unfoldable pub raised : List ℕ → ℕ → Bool → List ℕ
raised ws n b = cond b (set ws n 1) ws

abbrev pub one : Bool → ℕ
one b = cond b 1 0

-- whether one of a list is such
unfoldable pub any : {A : Type 0} → (A → Bool) → List A → Bool
any such [] = false
any such (x ∷ t) = such x || any such t

-- ---- any line
-- whether there is a CR among its first 1,024 bytes
abbrev pub is_cr : ℕ → Bool
is_cr b = eqb b 13

abbrev pub has_cr : List ℕ → Bool
has_cr l = any is_cr (take 1024 l)

unfoldable pub with_line : List ℕ → List ℕ → List ℕ
with_line ws l = raised (added ws 0 1) 8 (has_cr l)

-- ---- a line that was accepted
-- whether a fault has a number, and its place is one of those from `low` to `high`
abbrev pub is_at : ℕ → ℕ → ℕ → Fault → Bool
is_at number low high f = eqb (faults.number_of f.kind) number && (leb low f.place && leb f.place high)

-- the line ends inside a field; y or z, the fields of an atom that begin in columns 38 and 46, is text of the wrong sort
abbrev pub is_cut : List Fault → Bool
is_cut fs = any (is_at 1 0 65535) fs

abbrev pub is_off : List Fault → Bool
is_off fs = any (is_at 2 38 46) fs

-- by its kind's number: 0 is EMPTY, 3 and 4 are ATOM and HETATM, and 27 is END
abbrev pub atoms : ℕ → Bool
atoms k = leb 3 k && leb k 4

unfoldable pub with_kind : List ℕ → ℕ → Bool → List ℕ
with_kind ws k off = raised (added (added (added ws 1 (one (not (eqb k 0)))) 4 (one (atoms k))) 5 (one (atoms k && off))) 6 (eqb k 27)

-- a field of a group that wasn't read in a line
unfoldable pub with_first : List ℕ → ℕ → ℕ → List ℕ
with_first ws line g = cond (eqb (word ws (9 + 3 * g)) 0) (set ws (10 + 3 * g) line) ws

unfoldable pub with_fault : List ℕ → ℕ → ℕ → List ℕ
with_fault ws line g = added (set (with_first ws line g) (11 + 3 * g) line) (9 + 3 * g) 1

unfoldable pub with_faults : List ℕ → ℕ → Kind → List Fault → List ℕ
with_faults ws line k [] = ws
with_faults ws line k (f ∷ t) = with_faults (with_fault ws line (group_of k f.place)) line k t

unfoldable pub with_accepted : List ℕ → ℕ → Kind → List Fault → List ℕ
with_accepted ws line k fs =
    with_faults (set (added (with_kind ws (number_of k) (is_off fs)) 2 (one (ltb 0 (length fs)))) 7 (one (is_cut fs))) line k fs

-- ---- a line that was refused: by 4 and 6 for its length
unfoldable pub with_refused : List ℕ → ℕ → List ℕ
with_refused ws number = set (added ws 3 1) 7 (one (eqb number 4 || eqb number 6))

-- ---- a line with its answer, whose faults know its number and its kind
abbrev pub entered_by : List ℕ → Result LexItem Refusal → LineFaults → List ℕ
entered_by ws (Ok item) fs = with_accepted ws fs.line fs.kind (take fs.count fs.list)
entered_by ws (Err r) fs = with_refused ws r.number

unfoldable pub entered : List ℕ → List ℕ → Answer → List ℕ
entered ws l a = entered_by (with_line ws l) a.outcome a.faults
