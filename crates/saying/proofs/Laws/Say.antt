-- The words of a line say what its listing says.
--     accepted-low     an accepted line's bytes are below 256
--     lexed_say        the words of an accepted line say its listing, whatever stands behind them
--     words_say        so do the words that `read_words` leaves where it answers 0, whatever kind was asked for
--     words-written    so what they say is what `list_line` writes for the same line
--     words_face       and what C hosts get listed in 4,096 bytes
-- Assumes nothing.
use Prim.Native.Nat.{ℕ, ◌-◌, ◌/◌, ◌^◌, ◌≤◌, ◌<◌}
use mathlib.Core.Path.{◌≡◌, refl, sym, ap, ◌∙◌}
use mathlib.Core.Bool.{Bool, true, false, cond, not}
use mathlib.Core.List.{List, [], ◌∷◌, ◌++◌}
use Rattle.std.specs.Prelude.{Result, Ok, Err}
use native.Mathlib.Omega.{arith}
use borrow.Author.Tests.{le-leb, le-ltb, ltb-true, ltb-false}
use lib.Dec.{ltb, leb, eqb}
use lib.ListN.{length, get_or, take, drop}
use lib.Seq.{take-append_seam}
use Rattle.answers.specs.Face.{written_by, WrittenInto}
use Rattle.layout.specs.Each.{each}
use Rattle.layout.specs.Fault.{faults_bytes}
use Rattle.layout.specs.Row.{row_bytes, rows_bytes}
use Rattle.lexer.proofs.Laws.Accepted.{accepted-item, accepted-line, accepted-told}
use Rattle.lexer.proofs.Laws.Plain.{plain-high}
use Rattle.lexer.specs.Lexed.{refused, accepted, first_of, lexed, lexed_as}
use Rattle.lexer.specs.Refusals.{Input, Test, Asking, plain, excess, tests, kind, given, faults}
use Rattle.lexer.specs.Refusals.Asking.{its_record, record_as}
use Rattle.lexitem.specs.Answer.{refusal}
use Rattle.lexitem.specs.Describe.{fields_of}
use Rattle.lexitem.specs.Fault.{told, faults_in}
use Rattle.lexitem.specs.Shown.{held}
use Rattle.lexitem.specs.declared.answer.Answer.{Answer}
use Rattle.lexitem.specs.declared.answer.Refusal.{Refusal}
use Rattle.lexitem.specs.declared.item.LexItem.{LexItem}
use Rattle.listing.proofs.Laws.Longest.{listing_longest}
use Rattle.listing.specs.Listed.{ListedInto, fitted_answer, fitted_bytes, listed_answer, listed_bytes, listing_by, measured}
use Rattle.listing.specs.Listing.{listing_of, longest}
use Rattle.reading.proofs.Laws.Read.{answered-lexed, room-enough}
use Rattle.reading.specs.Faults.{fault_words, faults_words}
use Rattle.reading.specs.Read.{kind_numbered, answered, too_few_of, read_word, fields_left, faults_left, Reads}
use Rattle.row.specs.declared.Row.{Row}
use Rattle.wording.proofs.Laws.Words.{read-any}
use Rattle.wording.specs.Fields.{row_words, rows_words, field_words, over}
use Rattle.saying.specs.Said.{row_said, fault_said, pairs, said}
use Rattle.saying.proofs.Laws.Pairs.{All, Says, pairs-each}
use Rattle.saying.proofs.Laws.Rows.{Sound, row-says, words-held, bytes-held}
use Rattle.saying.proofs.Laws.Fields.{fields_sound}
use Rattle.saying.proofs.Laws.Faults.{faults-placed, faults_say, many_in}

-- ---- rows
rows_say : (l : List ℕ) (rows : List Row) → All (Sound l) rows → All (λ row. Says (row_said l) (row_words l row) (row_bytes l row)) rows
rows_say l [] h = tt
rows_say l (row ∷ rows) h = (row-says l row h.0, rows_say l rows h.1)

module _ (i : Input) (x : LexItem) (yes : (lexed i).outcome ≡ Ok x) where
  abbrev l : List ℕ
  l = i.line

  -- the third test is that of the bytes
  third_failed : (b c d : Bool) (q r s : Refusal) (else : Answer)
      → (cond b (refused i q) (cond c (refused i r) (cond d (refused i s) else))).outcome ≡ Ok x → d ≡ false
  third_failed true c d q r s else e = cc
  third_failed false true d q r s else e = cc
  third_failed false false true q r s else e = cc
  third_failed false false false q r s else e = refl

  all_plain : length l ≤ plain l
  unfolding lexed
  all_plain =
      ltb-false (plain l) (length l)
      (third_failed (not (eqb (length i.remarks) 1000)) (ltb 1024 (length l)) (ltb (plain l) (length l)) (refusal 1 0 0)
      (refusal 2 1024 (excess (length l)))
      (refusal 3 (plain l) 1)
      (first_of (refused i) (drop 3 (tests its_record i)) (accepted i))
      yes)

  pub accepted-low : (place : ℕ) → place < length l → get_or l place 256 < 256
  accepted-low place h = rw (read-any l place 256 0 h) (go (ltb 127 (get_or l place 0)) refl)
    where
      go : (b : Bool) → ltb 127 (get_or l place 0) ≡ b → get_or l place 0 < 256
      go true e = absurd (omega (arith, plain-high l place h (ltb-true 127 (get_or l place 0) e), all_plain))
      go false e = omega (arith, ltb-false 127 (get_or l place 0) e)

  fields_say : (t : List ℕ) → pairs (row_said l) (length (rows_words l (fields_of x)) / 2) (rows_words l (fields_of x) ++ t) ≡ rows_bytes l (fields_of x)
  fields_say t =
      let rows = held (fields_of x) in
      let sound : All (Sound l) rows = rw (accepted-item i x yes) (fields_sound (given i) (accepted-line i x yes) accepted-low (kind i)) in
      rw (words-held l (fields_of x), bytes-held l (fields_of x)) (pairs-each (row_said l) (row_words l) (row_bytes l) t rows (rows_say l rows sound))

  faults-told : (t : List ℕ) → (let fs = told (lexed i).faults in pairs fault_said (length fs) (each fault_words fs ++ t) ≡ faults_bytes (faults_in fs))
  faults-told t = rw (accepted-told i x yes) (faults_say i.number (kind i) (faults i) t (faults-placed (given i) (kind i)))

  pub lexed_say : (t s : List ℕ) → said i.number l (field_words l x ++ t) (faults_words (told (lexed i).faults) ++ s) ≡ listing_by i x
  unfolding said listing_of field_words faults_words
  lexed_say t s = rw (fields_say t, faults-told s, many_in (told (lexed i).faults)) refl

-- ---- the entries
-- a refusal has a number
abbrev Numbered : Result LexItem Refusal → Type 0
Numbered (Ok x) = Unit {0}
Numbered (Err r) = 1 ≤ r.number

abbrev Gives : Test → Type 0
Gives t = 1 ≤ t.gives.number

first-numbered : (i : Input) (ts : List Test) → All Gives ts → Numbered (first_of (refused i) ts (accepted i)).outcome
first-numbered i [] h = tt
first-numbered i (t ∷ ts) h = go t.holds (first-numbered i ts h.1)
  where
    go : (b : Bool) → Numbered (first_of (refused i) ts (accepted i)).outcome
        → Numbered (cond b (refused i t.gives) (first_of (refused i) ts (accepted i))).outcome
    go true rest = h.0
    go false rest = rest

tests_give : (a : Asking) (i : Input) → All Gives (tests a i)
tests_give a i = (omega arith, (omega arith, (omega arith, (omega arith, (omega arith, (omega arith, (omega arith, tt)))))))

answer-numbered : (n : ℕ) (i : Input) → Numbered (answered n i).outcome
unfolding answered lexed lexed_as
answer-numbered n i = go (eqb n (2 ^ 32 - 1))
  where
    go : (b : Bool) → Numbered (cond b (lexed i) (lexed_as (kind_numbered n) i)).outcome
    go true = first-numbered i (tests its_record i) (tests_give its_record i)
    go false = first-numbered i (tests (record_as (kind_numbered n)) i) (tests_give (record_as (kind_numbered n)) i)

-- what is written is the listing
written : (before listing after : List ℕ) (m : ℕ) → Ok m ≡ fitted_answer (length before) listing → after ≡ fitted_bytes before listing
    → take m after ≡ listing
written before listing after m e f = go (leb (length listing) (length before)) e f
  where
    go : (b : Bool)
        → ◌≡◌ {A = Result ℕ Refusal} (Ok m) (cond b (Ok (length listing)) (Err (record { number = 8; place = 0; length = length listing })))
        → after ≡ cond b (listing ++ drop (length listing) before) before → take m after ≡ listing
    go true e f =
        let n : m ≡ length listing = cc in rw (f, n) (take-append_seam listing (drop (length listing) before))
    go false e f = cc

-- what is left on lent words where the answer is 0
module _ (l : List ℕ) (a : Answer) (x : LexItem) (old other new others : List ℕ) (yes : a.outcome ≡ Ok x) (reads : Reads l a old other 0 new others) where
  enough : too_few_of (length old) (length other) ≡ false
  enough =
      let room = room-enough (length old) (length other) 0 (reads.answer ∙ ap (λ (o : Result LexItem Refusal). read_word o (length old) (length other)) yes) refl in
      rw (le-ltb (length old) 34 room.0, le-ltb (length other) 31 room.1) refl

  fields-left : new ≡ over (field_words l x) old
  fields-left = reads.fields ∙ ap (λ (o : Result LexItem Refusal). fields_left o l old other) yes ∙ rw enough refl

  faults-left : others ≡ over (faults_words (told a.faults)) other
  faults-left = reads.faults ∙ ap (λ (o : Result LexItem Refusal). faults_left a o old other) yes ∙ rw enough refl

module _ (n : ℕ) (i : Input) (old other new others : List ℕ) (reads : Reads i.line (answered n i) old other 0 new others) where
  module _ (x : LexItem) (yes : (answered n i).outcome ≡ Ok x) where
    pub words_say : ((lexed i).outcome ≡ Ok x) × (said i.number i.line new others ≡ listing_by i x)
    words_say =
        let same = answered-lexed n i x yes in
        let so : (lexed i).outcome ≡ Ok x = ap (λ (a : Answer). a.outcome) (sym same) ∙ yes in
        let all = lexed_say i x so (drop (length (field_words i.line x)) old) (drop (length (faults_words (told (lexed i).faults))) other) in (
          so,
          rw (fields-left i.line (answered n i) x old other new others yes reads, faults-left i.line (answered n i) x old other new others yes reads, same) all,
        )

  -- a refusal's answer isn't 0
  where_read : {A : Type 0} → ((x : LexItem) → (answered n i).outcome ≡ Ok x → A) → A
  where_read {A} gives = go (answered n i).outcome refl
    where
      go : (o : Result LexItem Refusal) → (answered n i).outcome ≡ o → A
      go (Ok x) is = gives x is
      go (Err r) is =
          let some = rw is at (answer-numbered n i) in
          let none = reads.answer ∙ ap (λ (o : Result LexItem Refusal). read_word o (length old) (length other)) is in
          absurd (omega arith)

  module _ (before after : List ℕ) (m : ℕ) where
    pub words-written : ListedInto before i (Ok m) after → take m after ≡ said i.number i.line new others
    words-written h =
        where_read
        (λ x is.
        let say = words_say x is in
        rw say.1
        (written before (listing_by i x) after m (h.answer ∙ ap (listed_answer (length before) i) say.0) (h.bytes ∙ ap (listed_bytes before i) say.0)))

    pub words_face : longest ≤ length before → WrittenInto before i m after → take m after ≡ said i.number i.line new others
    words_face room h =
        where_read
        (λ x is.
        let so = (words_say x is).0 in
        let short = le-leb (length (listing_by i x)) (length before) (omega (arith, listing_longest i x so)) in
        let all : measured (length before) i ≡ Ok (length (listing_by i x)) = ap (listed_answer (length before) i) so ∙ rw short refl in
        let many : m ≡ length (listing_by i x) = h.answer ∙ ap written_by all in
        words-written (record { answer = ap Ok many ∙ sym all; bytes = h.bytes }))
