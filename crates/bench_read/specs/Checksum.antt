-- The checksum by which the sides of the speed bench are compared. Line after line, of what lexing the line answers: the bits of the five
-- doubles of an ATOM or HETATM, in the order x, y, z, occupancy, B-factor; then how many faults there are. A sum sees the order of what is mixed
-- into it, and loses nothing of it, since three is odd.
use Rattle.std.specs.Prelude.{ℕ, ◌+◌, ◌*◌, ◌%◌, ◌^◌, List, [], ◌∷◌, replicate, to_bits, Float, Result, Ok, Err}
use Rattle.std.specs.Float.{binary64}
use Rattle.lexer.specs.Lexed.{lexed}
use Rattle.lexer.specs.Refusals.{Input}
use Rattle.lexitem.specs.declared.answer.Answer.{Answer}
use Rattle.atom.specs.declared.record.Atom.{Atom}
use Rattle.lexitem.specs.Describe.{atom_in}
use Rattle.lexitem.specs.declared.answer.Refusal.{Refusal}
use Rattle.lexitem.specs.declared.item.LexItem.{LexItem}
use Rattle.line.specs.Options.{plain}
use Rattle.walker.specs.Lines.{lines_of}

unfoldable pub mixed : ℕ → ℕ → ℕ
mixed sum value = (3 * sum + value) % 2 ^ 64

unfoldable pub mixed_real : ℕ → Float → ℕ
mixed_real sum x = mixed sum (to_bits binary64 x)

unfoldable pub mixed_atom : ℕ → Atom → ℕ
mixed_atom sum a =
    mixed_real
    (mixed_real (mixed_real (mixed_real (mixed_real sum a.position.x) a.position.y) a.position.z) a.occupancy)
    a.bfactor

-- the other records have no part in the sum
abbrev pub mixed_atoms : ℕ → List Atom → ℕ
mixed_atoms sum [] = sum
mixed_atoms sum (a ∷ rest) = mixed_atoms (mixed_atom sum a) rest

abbrev pub mixed_outcome : ℕ → Result LexItem Refusal → ℕ
mixed_outcome sum (Ok r) = mixed_atoms sum (atom_in r)
mixed_outcome sum (Err r) = sum

unfoldable pub mixed_answer : ℕ → Answer → ℕ
mixed_answer sum a = mixed (mixed_outcome sum a.outcome) a.faults.count

-- no option is on, and every remark number is valid
abbrev pub plain_input : List ℕ → ℕ → Input
plain_input line number =
    record { line = line; number = number; options = plain; remarks = replicate 1000 1 }

-- the sum over lines of which so many have gone before; the first of all has the number 1
unfoldable pub checksum_from : ℕ → ℕ → List (List ℕ) → ℕ
checksum_from count sum [] = sum
checksum_from count sum (l ∷ ls) = checksum_from (count + 1) (mixed_answer sum (lexed (plain_input l (count + 1)))) ls

unfoldable pub checksum_of : List ℕ → ℕ
checksum_of file = checksum_from 0 0 (lines_of file)
