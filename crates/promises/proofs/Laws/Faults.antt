-- "An invented fault count (it is the length of the defined list)": the faults of an accepted line are those of its kind's table, in their order,
-- and as many are counted. "Put the line number and the record kind into every fault." "ANISOU can give fifteen faults and no kind gives more, so show that on every line in either mode."
--     faults-few        a line has at most fifteen, whatever its kind, the options and the mode
--     fifteen_given     an ANISOU of seven bytes has them, in either mode
--     faults-listed     the list that is held is the defined list
--     faults-stamped    and each fault of it has the line's number and kind
--     faults-counted    its count is that list's length
-- Assumes nothing.
use Prim.Native.Nat.{◌≤◌}
use mathlib.Core.Path.{◌≡◌, refl}
use mathlib.Core.Bool.{Bool, false}
use Rattle.std.specs.Prelude.{Ok}
use lib.ListN.{length, replicate}
use Rattle.line.specs.Bytes.{bytes}
use Rattle.line.specs.Columns.{part_of}
use Rattle.line.specs.Faults.{no_faults, noted}
use Rattle.line.specs.declared.options.Mode.{Mode}
use Rattle.field.specs.Number.{number_faults}
use Rattle.field.specs.Text.{text_faults, character_faults}
use Rattle.field.specs.Charge.{charged, charge_faults}
use Rattle.kind.specs.Kind.{kind_of}
use Rattle.lexitem.specs.declared.item.LexItem.{LexItem}
use Rattle.lexitem.specs.Describe.{faults_of}
use Rattle.lexitem.specs.Fault.{stamped, stamped_as, told, faults_in}
use Rattle.lexitem.proofs.Laws.Few.{faults_fifteen}
use Rattle.lexer.specs.Lexed.{lexed}
use Rattle.lexer.specs.Refusals.{Input, kind, given, plain}
use Rattle.lexer.proofs.Laws.Accepted.{accepted-told, accepted-faults, accepted-count}

pub faults-few : (i : Input) → length (faults_of (kind i) (given i)) ≤ 15
faults-few i = faults_fifteen (kind i) (given i)

-- an ANISOU of seven bytes
abbrev pub seven : Mode → Bool → Input
seven mode exponents = record {
  line = bytes "ANISOU ";
  number = 1;
  options = record { atoms = false; loose = false; mode = mode; exponents = exponents };
  remarks = replicate 1000 1;
}

pub fifteen_given : (mode : Mode) (exponents : Bool) → (lexed (seven mode exponents)).faults.count ≡ 15
unfolding lexed plain kind_of faults_of stamped_as no_faults noted number_faults text_faults character_faults charge_faults charged part_of
fifteen_given mode exponents = refl

module _ (i : Input) (x : LexItem) (e : (lexed i).outcome ≡ Ok x) where
  pub faults-listed : faults_in (told (lexed i).faults) ≡ faults_of (kind i) (given i)
  faults-listed = accepted-faults i x e

  pub faults-stamped : told (lexed i).faults ≡ stamped i.number (kind i) (faults_of (kind i) (given i))
  faults-stamped = accepted-told i x e

  pub faults-counted : (lexed i).faults.count ≡ length (faults_of (kind i) (given i))
  faults-counted = accepted-count i x e
