-- A fault's second word says the fault's row.
--     Placed, faults-placed     the faults of a line stand at columns of 16 bits, since its kind's table does
--     fault-parts               the word of such a fault gives back its kind, its number, its sort, its place and its length
--     faults_say                the words of such faults say their rows
--     many_in                   as many as there are
-- Assumes nothing.
use Prim.Native.Nat.{ℕ, suc, ◌+◌, ◌*◌, ◌/◌, ◌%◌, ◌^◌, ◌<◌}
use mathlib.Core.Path.{◌≡◌, refl, ap, ◌∙◌}
use mathlib.Core.Bool.{Bool}
use mathlib.Core.List.{List, [], ◌∷◌, ◌++◌}
use native.Mathlib.Omega.{arith}
use lib.Dec.{ltb}
use lib.ListN.{length, get_or}
use Rattle.std.specs.Prelude.{is_some}
use Rattle.field.specs.Charge.{is_sign, charged, charge_faults, charge_faults_of}
use Rattle.field.specs.Number.{number_faults, unsigned_from_faults}
use Rattle.field.specs.Remark.{is_known, known_faults}
use Rattle.field.specs.Table.{Entry, faults_by, table_faults}
use Rattle.field.specs.Table.Entry.{u, i, r, t, c, c?, a, u-rest, x, t_within, t-rest, t-end, charge, known, given, unwritten, triples}
use Rattle.field.specs.Text.{text_faults, character_faults}
use Rattle.kind.specs.Kind as kinds
use Rattle.kind.specs.declared.Kind.{Kind}
use Rattle.layout.specs.Each.{each}
use Rattle.layout.specs.Fault.{fault_bytes, faults_bytes}
use Rattle.layout.specs.Label.{three_row}
use Rattle.lexitem.specs.Describe.{fields_by, faults_of}
use Rattle.lexitem.specs.Fault.{stamped, faults_in}
use Rattle.lexitem.specs.declared.fault.LineFault.{LineFault}
use Rattle.line.specs.Bytes.{bytes}
use Rattle.line.specs.Columns.{part_of, rest_of}
use Rattle.line.specs.Faults as faults
use Rattle.line.specs.Given.{Given}
use Rattle.line.specs.declared.columns.Columns.{Columns}
use Rattle.line.specs.declared.fault.Fault.{Fault}
use Rattle.line.specs.declared.fault.FaultKind.{FaultKind}
use Rattle.number.specs.Whole.{digit, unsigned_of}
use Rattle.reading.proofs.Laws.Faults.{number-of, few-of, sort_of_lem}
use Rattle.reading.specs.Faults.{sort_of, fault_word, fault_words}
use Rattle.saying.specs.Said.{fault_said, pairs}
use Rattle.saying.proofs.Laws.Pairs.{All, all_append, all_either, Says, pairs-each}
use Rattle.saying.proofs.Laws.Rows.{low_part, high_part}
use Rattle.saying.proofs.Laws.Tables.{Narrow, narrow-kind}

-- ---- where faults stand
abbrev pub Placed : Fault → Type 0
Placed f = f.place < 65536

module _ (l : List ℕ) (at : Columns) (h : at.start < 1024) where
  number-placed : (sort : _) (fine : Bool) → All Placed (number_faults l at sort fine)
  unfolding number_faults
  number-placed sort fine =
      all_either Placed (ltb (length l) at.end) _ _ (omega arith, tt) (all_either Placed fine [] _ tt (omega arith, tt))

  text-placed : All Placed (text_faults l at)
  unfolding text_faults
  text-placed = all_either Placed (ltb (length l) at.end) _ [] (omega arith, tt) tt

  character_placed : All Placed (character_faults l at.start)
  unfolding character_faults
  character_placed = all_either Placed (ltb at.start (length l)) [] _ tt (omega arith, tt)

  charge-placed : All Placed (charge_faults l at)
  unfolding charge_faults charge_faults_of
  charge-placed =
      all_either Placed (charged (part_of l at)) _ []
      (all_either Placed (digit (get_or (part_of l at) 0 0)) _ _
      (all_either Placed (is_sign (get_or (part_of l at) 1 0)) [] _ tt (omega arith, tt))
      (omega arith, tt))
      tt

  known-placed : (remarks : List ℕ) (n : ℕ) → All Placed (known_faults remarks n at)
  unfolding known_faults
  known-placed remarks n = all_either Placed (is_known remarks n) [] _ tt (omega arith, tt)

module _ (g : Given) where
  rest-placed : (start : ℕ) → start < 1024 → All Placed (unsigned_from_faults g.line start)
  unfolding unsigned_from_faults
  rest-placed start h = all_either Placed (is_some (unsigned_of (rest_of g.line start))) [] _ tt (omega arith, tt)

  entry_placed : (e : Entry) → Narrow e → All Placed (faults_by g e)
  entry_placed (u at) n = number-placed g.line at n.0 _ _
  entry_placed (i at) n = number-placed g.line at n.0 _ _
  entry_placed (r at default) n = number-placed g.line at n.0 _ _
  entry_placed (t at) n = text-placed g.line at n.0
  entry_placed (c at) n = character_placed g.line at n.0
  entry_placed (c? at) n = character_placed g.line at n.0
  entry_placed (a at) n = number-placed g.line at n.0 _ _
  entry_placed (u-rest start) n = rest-placed start n.0
  entry_placed (x at) n = tt
  entry_placed (t_within at) n = tt
  entry_placed (t-rest start) n = tt
  entry_placed (t-end start) n = tt
  entry_placed (charge at) n = charge-placed g.line at n.0
  entry_placed (known at) n = known-placed g.line at n.0 g.remarks _
  entry_placed (given column) n = tt
  entry_placed (unwritten column) n = tt
  entry_placed (triples start) n = tt

  table-placed : (es : List Entry) → All Narrow es → All Placed (table_faults g es)
  table-placed [] h = tt
  table-placed (e ∷ es) h = all_append Placed (faults_by g e) (table_faults g es) (entry_placed e h.0) (table-placed es h.1)

  pub faults-placed : (k : Kind) → All Placed (faults_of k g)
  unfolding faults_of
  faults-placed k = table-placed (fields_by k g) (narrow-kind k g)

-- ---- their words
-- a fault's word by its parts, each below the factor of the next
module _ (kind fault sort place n : ℕ) (k : kind < 256) (f : fault < 256) (s : sort < 65536) (p : place < 65536) where
  abbrev whole : ℕ
  whole = kind + fault * 256 + sort * 65536 + place * 4294967296 + n * 281474976710656

  above-kind : whole ≡ kind + (fault + (sort + (place + n * 65536) * 65536) * 256) * 256
  above-kind = omega arith

  fault-back : whole / 256 % 256 ≡ fault
  fault-back =
      rw (above-kind, high_part kind (fault + (sort + (place + n * 65536) * 65536) * 256) 256 k)
      (low_part fault (sort + (place + n * 65536) * 65536) 256 f)

  kind-back : whole % 256 ≡ kind
  kind-back = rw above-kind (low_part kind (fault + (sort + (place + n * 65536) * 65536) * 256) 256 k)

  above-fault : whole ≡ (kind + fault * 256) + (sort + (place + n * 65536) * 65536) * 65536
  above-fault = omega arith

  sort_back : whole / 65536 % 65536 ≡ sort
  sort_back =
      rw (above-fault, high_part (kind + fault * 256) (sort + (place + n * 65536) * 65536) 65536 (omega arith))
      (low_part sort (place + n * 65536) 65536 s)

  above_sort : whole ≡ (kind + fault * 256 + sort * 65536) + (place + n * 65536) * 4294967296
  above_sort = omega arith

  place-back : whole / 4294967296 % 65536 ≡ place
  place-back =
      rw (above_sort, high_part (kind + fault * 256 + sort * 65536) (place + n * 65536) 4294967296 (omega arith)) (low_part place n 65536 p)

  length_back : whole / 281474976710656 ≡ n
  length_back = high_part (kind + fault * 256 + sort * 65536 + place * 4294967296) n 281474976710656 (omega arith)

  parts : (whole % 256 ≡ kind) × (whole / 256 % 256 ≡ fault) × (whole / 65536 % 65536 ≡ sort) × (whole / 4294967296 % 65536 ≡ place)
      × (whole / 281474976710656 ≡ n)
  parts = (kind-back, fault-back, sort_back, place-back, length_back)

abbrev row_of : LineFault → List ℕ
row_of f = fault_bytes f.fault

module _ (f : LineFault) (p : Placed f.fault) where
  abbrev fk : FaultKind
  fk = f.fault.kind

  few : faults.number_of fk < 256
  few = omega (arith, few-of (faults.number_of fk) fk refl)

  small : sort_of fk < 65536
  small = omega (arith, sort_of_lem (sort_of fk) fk refl)

  pub fault-parts : (fault_word f % 2 ^ 8 ≡ kinds.number_of f.kind)
      × (fault_word f / 2 ^ 8 % 2 ^ 8 ≡ faults.number_of fk)
      × (fault_word f / 2 ^ 16 % 2 ^ 16 ≡ sort_of fk)
      × (fault_word f / 2 ^ 32 % 2 ^ 16 ≡ f.fault.place)
      × (fault_word f / 2 ^ 48 ≡ f.fault.length)
  fault-parts =
      parts (kinds.number_of f.kind) (faults.number_of fk) (sort_of fk) f.fault.place f.fault.length (number-of _ f.kind refl) few small p

  fault-says : Says fault_said (fault_words f) (row_of f)
  unfolding fault_words fault_said
  fault-says = λ j. three_row (bytes "fault=") (fault-parts.1 j) (fault-parts.3 j) (fault-parts.4 j)

all_say : (line : ℕ) (kind : Kind) (fs : List Fault) → All Placed fs → All (λ f. Says fault_said (fault_words f) (row_of f)) (stamped line kind fs)
all_say line kind [] h = tt
all_say line kind (f ∷ fs) h = (fault-says (record { line = line; kind = kind; fault = f }) h.0, all_say line kind fs h.1)

half : (fs : List LineFault) → length fs ≡ length (each fault_words fs) / 2
unfolding each fault_words
half [] = refl
half (f ∷ fs) = let ih = half fs in omega arith

shown_in : (fs : List LineFault) → each row_of fs ≡ faults_bytes (faults_in fs)
unfolding each
shown_in [] = refl
shown_in (f ∷ fs) = rw (shown_in fs) refl

pub many_in : (fs : List LineFault) → length (faults_in fs) ≡ length fs
many_in [] = refl
many_in (f ∷ fs) = ap suc (many_in fs)

pub faults_say : (line : ℕ) (kind : Kind) (fs : List Fault) (behind : List ℕ) → All Placed fs → (let told = stamped line kind fs in
    pairs fault_said (length told) (each fault_words told ++ behind) ≡ faults_bytes (faults_in told))
faults_say line kind fs behind h =
    let told = stamped line kind fs in
    rw (half told) (pairs-each fault_said fault_words row_of behind told (all_say line kind fs h) ∙ shown_in told)
