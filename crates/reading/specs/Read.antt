-- The entry that reads a line: "`kind` is a kind number or `SALTIGHEDDA_ANY` (2^32 - 1); another than the line's is refusal 15. Refusal 8 (0, words
-- needed) if `fields` has under 34 words, then if `faults` has under 31, tested last. The words behind stay as they were; on a refusal all do."
use Rattle.std.specs.Prelude.{ℕ, suc, zero, ◌-◌, ◌^◌, ◌≡◌, Bool, cond, ◌||◌, List, [], ◌∷◌, length, ltb, eqb, Result, Ok, Err}
use Rattle.atom.specs.Atom.{got_atom}
use Rattle.atom.specs.declared.record.Atom.{Atom as AtomRecord}
use Rattle.line.specs.declared.fault.Got.{Got}
use Rattle.kind.specs.Kind.{Named, names}
use Rattle.kind.specs.declared.Kind.{Kind}
use Rattle.kind.specs.declared.Kind.TheVariants.{Atom, Hetatm, Scale}
use Rattle.lexer.specs.Lexed.{lexed, lexed_as}
use Rattle.lexer.specs.Refusals.{Input}
use Rattle.lexer.specs.Steps.{answer_of}
use Rattle.lexitem.specs.Fault.{told}
use Rattle.lexitem.specs.declared.answer.Answer.{Answer}
use Rattle.lexitem.specs.declared.item.LexItem.TheVariants as item
use Rattle.lexitem.specs.declared.answer.Refusal.{Refusal}
use Rattle.lexitem.specs.declared.item.LexItem.{LexItem}
use Rattle.line.specs.Given.{taking}
use Rattle.wording.specs.Fields.{field_words, over}
use Rattle.reading.specs.Faults.{faults_words}
use Rattle.packing.specs.Packed.{packed_as}

-- the kind of a number; any other number is that of a row which no line has
abbrev pub kind_at : ℕ → List Named → Kind
kind_at n [] = Scale 3
kind_at zero (name ∷ t) = name.kind
kind_at (suc n) (name ∷ t) = kind_at n t

abbrev pub kind_numbered : ℕ → Kind
kind_numbered n = kind_at n names

-- the answer for a line that is to be of a kind
unfoldable pub answered : ℕ → Input → Answer
answered kind i = cond (eqb kind (2 ^ 32 - 1)) (lexed i) (lexed_as (kind_numbered kind) i)

-- whether one of two rooms is too small for what can come
abbrev pub too_few_of : ℕ → ℕ → Bool
too_few_of room other = ltb room 34 || ltb other 31

abbrev pub room_word : ℕ → ℕ → ℕ
room_word room other = cond (ltb room 34) (packed_as (8, 0, 34)) (cond (ltb other 31) (packed_as (8, 0, 31)) 0)

abbrev pub read_word : Result LexItem Refusal → ℕ → ℕ → ℕ
read_word (Err r) room other = packed_as (r.number, r.place, r.length)
read_word (Ok x) room other = room_word room other

abbrev pub fields_left : Result LexItem Refusal → List ℕ → List ℕ → List ℕ → List ℕ
fields_left (Err r) l old other = old
fields_left (Ok x) l old other = cond (too_few_of (length old) (length other)) old (over (field_words l x) old)

abbrev pub faults_left : Answer → Result LexItem Refusal → List ℕ → List ℕ → List ℕ
faults_left a (Err r) old other = other
faults_left a (Ok x) old other = cond (too_few_of (length old) (length other)) other (over (faults_words (told a.faults)) other)

-- what is answered, and every lent word afterwards
pub record Reads (l : List ℕ) (a : Answer) (old other : List ℕ) (r : ℕ) (new others : List ℕ) : Type 0 where
  pub answer : r ≡ read_word a.outcome (length old) (length other)
  pub fields : new ≡ fields_left a.outcome l old other
  pub faults : others ≡ faults_left a a.outcome old other

-- ---- the words of a helper
-- an atom's kind
abbrev pub atom_kind : Bool → Kind
atom_kind hetero = cond hetero Hetatm Atom

-- the answer with what was read of an atom, and the one of an atom's line
abbrev pub answer_from : Bool → ℕ → Got AtomRecord → Answer
answer_from hetero number got = answer_of number (atom_kind hetero) (record { value = item.Atom got.value; faults = got.faults })

abbrev pub atom_answer : Bool → Bool → ℕ → List ℕ → Answer
atom_answer hetero exponents number l = answer_from hetero number (got_atom hetero (taking exponents l))
