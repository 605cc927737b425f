-- Laws of the entry that reads a line.
--     kind-within, kind-beyond    the kinds are those of the names, in their order, and a number above 27 is no kind's
--     as_lexed         a line that is accepted as one of a kind is answered as it is whatever its kind
--     answered-lexed   so is a line that is accepted at all
--     few-faults       its faults are told as they are counted, and are at most fifteen
--     small            a refusal's number and place have sixteen bits, and its length has thirty-two
--     reads-refused, reads-few, reads_none, reads_all     what is left by what is answered
--     atom-answered    a line that is told to be an atom is answered as one
--     atom-from        so with what was read of it
--     reads-one        two answers that the contract allows coincide, with every lent word
-- Assumes nothing.
use Prim.Native.Nat.{ℕ, suc, ◌-◌, ◌^◌, ◌≤◌, ◌<◌}
use mathlib.Core.Path.{◌≡◌, refl, sym, ap, ◌∙◌}
use mathlib.Core.Bool.{Bool, true, false, cond, not, ◌&&◌, ◌||◌}
use mathlib.Core.List.{List, [], ◌∷◌, map}
use Rattle.std.specs.Prelude.{Result, Ok, Err}
use native.Mathlib.Omega.{arith}
use borrow.Author.Tests.{ltb-false, le-ltb, eq-eqb}
use lib.ListN.{length, get_or, set, drop}
use lib.Dec.{ltb, eqb}
use Rattle.answers.specs.Ask.{kind_word}
use Rattle.atom.specs.Atom.{got_atom}
use Rattle.atom.specs.declared.record.Atom.{Atom as AtomRecord}
use Rattle.line.specs.declared.fault.Got.{Got}
use Rattle.kind.specs.Kind.{Named, names, number_of, no_kind}
use Rattle.kind.proofs.Laws.Number.{number-tells}
use Rattle.kind.specs.declared.Kind.{Kind}
use Rattle.kind.specs.declared.Kind.TheVariants.{Empty, Header, Remark, Atom, Hetatm, Anisou, Cryst1, Scale, Origx, Mtrix, Model, Master, Dbref, Dbref1, Dbref2, Seqres, Seqadv, Modres, Ssbond, Endmdl, Ter, End}
use Rattle.lexitem.specs.Answer.{refusal}
use Rattle.lexitem.specs.Describe.{bound_of}
use Rattle.lexitem.specs.Fault.{told}
use Rattle.layout.specs.Each.{each}
use Rattle.lexitem.specs.declared.fault.LineFault.{LineFault}
use Rattle.lexitem.specs.declared.answer.Answer.{Answer}
use Rattle.lexitem.specs.declared.answer.Refusal.{Refusal}
use Rattle.lexitem.specs.declared.item.LexItem.{LexItem}
use Rattle.lexitem.proofs.Laws.Fault.{stamped-length}
use Rattle.lexitem.proofs.Laws.Few.{faults_fifteen}
use Rattle.lexer.specs.Lexed.{refused, accepted, first_of, lexed, lexed_as, kind_asked}
use Rattle.lexer.specs.Refusals.{Input, Asking, kind, given, faults, plain, excess, missing, tests, header_cut, remark_long, another, reads, line_tests}
use Rattle.lexer.specs.Refusals.Asking.{its_record, record_as}
use Rattle.lexer.specs.Steps.{passed, after, entry_tests, read_as}
use Rattle.lexer.proofs.Laws.Accepted.{accepted-told, accepted-count}
use Rattle.lexer.proofs.Laws.Plain.{plain-le}
use Rattle.lexer.proofs.Laws.Tests.{lexed-split, as_split, asked-split}
use Rattle.line.specs.Given.{taking}
use Rattle.line.specs.declared.options.Options.{Options}
use Rattle.packing.proofs.Laws.Packed as packing
use Rattle.wording.specs.Fields.{field_words, over, Fills}
use Rattle.reading.specs.Faults.{faults_words}
use Rattle.reading.specs.Read.{kind_at, kind_numbered, answered, too_few_of, room_word, read_word, fields_left, faults_left, Reads, atom_kind, answer_from, atom_answer}

-- ---- the kind that is handed in
within : (ns : List Named) (n : ℕ) (d : Kind) → n < length ns → get_or (map (λ (m : Named). m.kind) ns) n d ≡ kind_at n ns
within [] n d h = absurd (omega arith)
within (name ∷ t) ℕ.zero d h = refl
within (name ∷ t) (suc n) d h = within t n d (omega arith)

pub kind-within : (n : ℕ) (d : Kind) → n < 28 → get_or (map (λ (m : Named). m.kind) names) n d ≡ kind_numbered n
kind-within n d h = within names n d (omega arith)

beyond : (ns : List Named) (n : ℕ) → length ns ≤ n → Scale 3 ≡ kind_at n ns
beyond [] n h = refl
beyond (name ∷ t) ℕ.zero h = absurd (omega arith)
beyond (name ∷ t) (suc n) h = beyond t n (omega arith)

pub kind-beyond : (n : ℕ) → 28 ≤ n → Scale 3 ≡ kind_numbered n
kind-beyond n h = beyond names n (omega arith)

-- ---- accepted lines
either : {x : LexItem} (i : Input) (p : Result (Unit {0}) Refusal) (c : Bool) (all : Answer) (r : Refusal)
    → (after p (refused i) (cond c all (refused i r))).outcome ≡ Ok x
    → after p (refused i) (cond c all (refused i r)) ≡ after p (refused i) all
either i (Ok none) true all r e = refl
either i (Ok none) false all r e = cc
either i (Err s) c all r e = refl

pub as_lexed : (k : Kind) (i : Input) (x : LexItem) → (lexed_as k i).outcome ≡ Ok x → lexed_as k i ≡ lexed i
as_lexed k i x e =
    rw (lexed-split i, as_split i k)
    (either i (passed (entry_tests i.line i.remarks)) (eqb (number_of k) (number_of (kind i))) (read_as i.number (kind i) (given i)) (refusal 15 0 0) (rw (as_split i k) at e))

pub answered-lexed : (n : ℕ) (i : Input) (x : LexItem) → (answered n i).outcome ≡ Ok x → answered n i ≡ lexed i
unfolding answered
answered-lexed n i x = go (eqb n (2 ^ 32 - 1))
  where
    go : (b : Bool) → (cond b (lexed i) (lexed_as (kind_numbered n) i)).outcome ≡ Ok x → cond b (lexed i) (lexed_as (kind_numbered n) i) ≡ lexed i
    go true e = refl
    go false e = as_lexed (kind_numbered n) i x e

pub few-faults : (n : ℕ) (i : Input) (a : Answer) (x : LexItem) → a ≡ answered n i → a.outcome ≡ Ok x
    → (a.faults.count ≤ 15) × (length (told a.faults) ≡ a.faults.count)
few-faults n i a x e o =
    let same : a ≡ lexed i = e ∙ answered-lexed n i x (ap (λ (b : Answer). b.outcome) (sym e) ∙ o) in
    let so : (lexed i).outcome ≡ Ok x = ap (λ (b : Answer). b.outcome) (sym same) ∙ o in
    let count = accepted-count i x so in
    let few = faults_fifteen (kind i) (given i) in
    rw same (omega arith, rw (accepted-told i x so, accepted-count i x so) (stamped-length i.number (kind i) (faults i)))

-- ---- refusals
abbrev Small : Result LexItem Refusal → Type 0
Small (Ok x) = Unit {0}
Small (Err r) = packing.Small r

missing-few : (k : Kind) (l : List ℕ) → missing (bound_of k) l ≤ 55
missing-few Empty l = omega arith
missing-few Header l = omega arith
missing-few Remark l = omega arith
missing-few Atom l = omega arith
missing-few Hetatm l = omega arith
missing-few Anisou l = omega arith
missing-few Cryst1 l = omega arith
missing-few (Scale row) l = omega arith
missing-few (Origx row) l = omega arith
missing-few (Mtrix row) l = omega arith
missing-few Model l = omega arith
missing-few Master l = omega arith
missing-few Dbref l = omega arith
missing-few Dbref1 l = omega arith
missing-few Dbref2 l = omega arith
missing-few Seqres l = omega arith
missing-few Seqadv l = omega arith
missing-few Modres l = omega arith
missing-few Ssbond l = omega arith
missing-few Endmdl l = omega arith
missing-few Ter l = omega arith
missing-few End l = omega arith

first_small : (a : Asking) (i : Input) → Small (first_of (refused i) (tests a i) (accepted i)).outcome
first_small a i =
    go (reads a && not (eqb (length i.remarks) 1000)) (ltb 1024 (length l)) (ltb (plain l) (length l)) (another a (kind i))
    (reads a && header_cut (bound_of (kind i)) l)
    (reads a && remark_long (bound_of (kind i)) l i.options.loose)
    (reads a && ltb 0 (missing (bound_of (kind i)) l))
    (ltb-false 1024 (length l))
  where
    l : List ℕ
    l = i.line

    go : (b c d e f g h : Bool) → (c ≡ false → length l ≤ 1024)
        → Small
        (cond b (refused i (refusal 1 0 0))
        (cond c (refused i (refusal 2 1024 (excess (length l))))
        (cond d (refused i (refusal 3 (plain l) 1))
        (cond e (refused i (refusal 15 0 0))
        (cond f (refused i (refusal 4 11 (length l - 11)))
        (cond g (refused i (refusal 5 80 (length l - 80)))
        (cond h (refused i (refusal 6 (length l) (missing (bound_of (kind i)) l))) (accepted i)))))))
        ).outcome
    go true c d e f g h few = (omega arith, omega arith, omega arith)
    go false true d e f g h few = (omega arith, omega arith, omega arith)
    go false false true e f g h few = let n = few refl in (omega arith, omega (arith, plain-le l), omega arith)
    go false false false true f g h few = (omega arith, omega arith, omega arith)
    go false false false false true g h few = let n = few refl in (omega arith, omega arith, omega arith)
    go false false false false false true h few = let n = few refl in (omega arith, omega arith, omega arith)
    go false false false false false false true few =
        let n = few refl in let m = missing-few (kind i) l in (omega arith, omega arith, omega arith)
    go false false false false false false false few = tt

pub small : (n : ℕ) (i : Input) (a : Answer) (r : Refusal) → a ≡ answered n i → a.outcome ≡ Err r
    → (r.number < 65536) × (r.place < 65536) × (r.length < 4294967296)
unfolding answered lexed lexed_as
small n i a r e o = rw (ap (λ (b : Answer). b.outcome) (sym e) ∙ o) at (go (eqb n (2 ^ 32 - 1)))
  where
    go : (b : Bool) → Small (cond b (lexed i) (lexed_as (kind_numbered n) i)).outcome
    go true = first_small its_record i
    go false = first_small (record_as (kind_numbered n)) i

-- ---- the rooms
too_few : (room other w : ℕ) → w ≡ room_word room other → (w ≡ 0 → ⊥) → too_few_of room other ≡ true
too_few room other w = go (ltb room 34) (ltb other 31)
  where
    go : (b c : Bool) → w ≡ cond b 2251799813685282 (cond c 2251799813685279 0) → (w ≡ 0 → ⊥) → b || c ≡ true
    go true c p some = refl
    go false true p some = refl
    go false false p some = absurd (some p)

pub room-enough : (room other w : ℕ) → w ≡ room_word room other → w ≡ 0 → (34 ≤ room) × (31 ≤ other)
room-enough room other w p none = go (ltb room 34) (ltb other 31) refl refl p
  where
    go : (b c : Bool) → ltb room 34 ≡ b → ltb other 31 ≡ c → w ≡ cond b 2251799813685282 (cond c 2251799813685279 0) → (34 ≤ room) × (31 ≤ other)
    go true c e f p = absurd (omega arith)
    go false true e f p = absurd (omega arith)
    go false false e f p = (ltb-false room 34 e, ltb-false other 31 f)

-- no fault is one word
none-put : (fs : List LineFault) (other : List ℕ) → length fs ≡ 0 → 1 ≤ length other → set other 0 0 ≡ over (faults_words fs) other
unfolding faults_words each drop
none-put [] [] e h = absurd (omega arith)
none-put [] (b ∷ t) e h = refl
none-put (f ∷ fs) other e h = absurd (omega arith)

-- ---- by what is answered
module _ (n : ℕ) (i : Input) (a : Answer) (l old other : List ℕ) (e : a ≡ answered n i) where
  -- what is left where the outcome is known
  left : (o : Result LexItem Refusal) (w : ℕ) (new others : List ℕ) → a.outcome ≡ o → w ≡ read_word o (length old) (length other)
      → new ≡ fields_left o l old other → others ≡ faults_left a o old other → Reads l (answered n i) old other w new others
  left o w new others is p q r =
      rw (← e)
      (record {
        answer = p ∙ ap (λ (u : Result LexItem Refusal). read_word u (length old) (length other)) (sym is);
        fields = q ∙ ap (λ (u : Result LexItem Refusal). fields_left u l old other) (sym is);
        faults = r ∙ ap (λ (u : Result LexItem Refusal). faults_left a u old other) (sym is);
      })

  pub reads-refused : (r : Refusal) (w : ℕ) → a.outcome ≡ Err r → w ≡ read_word (Err r) (length old) (length other)
      → Reads l (answered n i) old other w old other
  reads-refused r w o p = left (Err r) w old other o p refl refl

  module _ (x : LexItem) (o : a.outcome ≡ Ok x) where
    pub reads-few : (w : ℕ) → w ≡ room_word (length old) (length other) → (w ≡ 0 → ⊥) → Reads l (answered n i) old other w old other
    reads-few w p some = let few = too_few (length old) (length other) w p some in left (Ok x) w old other o p (rw few refl) (rw few refl)

    module _ (new : List ℕ) (h : 34 ≤ length old) (k : 31 ≤ length other) (put : Fills old (field_words l x) new) where
      pub reads_all : (others : List ℕ) → others ≡ over (faults_words (told a.faults)) other → Reads l (answered n i) old other 0 new others
      reads_all others q =
          let b = le-ltb (length old) 34 h in
          let c = le-ltb (length other) 31 k in
          left (Ok x) 0 new others o (rw (b, c) refl) (rw (b, c) (put.leaves ∙ rw b refl)) (rw (b, c) q)

      pub reads_none : a.faults.count ≡ 0 → length (told a.faults) ≡ a.faults.count → Reads l (answered n i) old other 0 new (set other 0 0)
      reads_none none many = reads_all (set other 0 0) (none-put (told a.faults) other (many ∙ none) (omega arith))

-- ---- an atom
-- a refusal of a line's bytes has a number
refused-first : (b c : Bool) (x y r : Refusal) → 2 ≤ x.number → 2 ≤ y.number
    → ◌≡◌ {A = Result (Unit {0}) Refusal} (cond b (Err x) (cond c (Err y) (Ok tt))) (Err r) → 2 ≤ r.number
refused-first true c x y r h k e = let z : x ≡ r = cc in rw (← z) h
refused-first false true x y r h k e = let z : y ≡ r = cc in rw (← z) k
refused-first false false x y r h k e = cc

line-refused : (l : List ℕ) (r : Refusal) → passed (line_tests l) ≡ Err r → 2 ≤ r.number
line-refused l r e = refused-first (ltb 1024 (length l)) (ltb (plain l) (length l)) _ _ r (omega arith) (omega arith) e

module _ (i : Input) where
  by_atom : (hetero : Bool) → read_as i.number (atom_kind hetero) (given i) ≡ atom_answer hetero i.options.exponents i.number i.line
  unfolding read_as
  by_atom true = refl
  by_atom false = refl

  few-kinds : (hetero : Bool) → (number_of (atom_kind hetero) < no_kind) × (number_of (atom_kind hetero) ≤ 4)
  few-kinds true = (omega arith, omega arith)
  few-kinds false = (omega arith, omega arith)

  pub atom-answered : (w : ℕ) (hetero : Bool) → length i.remarks ≡ 1000 → w ≡ kind_word (kind_asked i.line i.options) → w ≡ number_of (atom_kind hetero)
      → answered (2 ^ 32 - 1) i ≡ atom_answer hetero i.options.exponents i.number i.line
  unfolding answered
  atom-answered w hetero table word is = lexed-split i ∙ rw (eq-eqb (length i.remarks) 1000 table) (go (passed (line_tests i.line)) refl told)
    where
      told : kind_word (after (passed (line_tests i.line)) Err (Ok (kind i))) ≡ number_of (atom_kind hetero)
      told = ap kind_word (sym (asked-split i.line i.options)) ∙ sym word ∙ is

      go : (p : Result (Unit {0}) Refusal) → passed (line_tests i.line) ≡ p → kind_word (after p Err (Ok (kind i))) ≡ number_of (atom_kind hetero)
          → after p (refused i) (read_as i.number (kind i) (given i)) ≡ atom_answer hetero i.options.exponents i.number i.line
      go (Ok none) e k = rw (number-tells (kind i) (atom_kind hetero) (few-kinds hetero).0 k) (by_atom hetero)
      go (Err r) e k = absurd (let few = (few-kinds hetero).1 in omega (arith, line-refused i.line r e))

  pub atom-from : (n : ℕ) (hetero : Bool) (got : Got AtomRecord) (options : Options) → got ≡ got_atom hetero (taking options.exponents i.line) → options ≡ i.options
      → answered n i ≡ atom_answer hetero i.options.exponents i.number i.line → answer_from hetero i.number got ≡ answered n i
  atom-from n hetero got options is o so =
      ap (answer_from hetero i.number) (is ∙ ap (λ (w : Options). got_atom hetero (taking w.exponents i.line)) o) ∙ sym so

pub reads-one : {l old other new others new' others' : List ℕ} {a : Answer} {r s : ℕ} → Reads l a old other r new others
    → Reads l a old other s new' others' → (r ≡ s) × (new ≡ new') × (others ≡ others')
reads-one x y = (x.answer ∙ sym y.answer, x.fields ∙ sym y.fields, x.faults ∙ sym y.faults)
