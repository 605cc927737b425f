-- What an account tells.
--     told_once     cut at its LFs, the account of a line with faults is its first row, the line, and a row for each fault, in their order
--     quiet         an accepted line's account is empty exactly when it has no fault
-- Assumes nothing.
use Prim.Native.Nat.{ℕ, suc, ◌+◌, ◌-◌, ◌/◌, ◌%◌, min}
use mathlib.Core.Path.{◌≡◌, refl, sym, ap, ◌∙◌}
use mathlib.Core.Bool.{Bool, true, false, cond, not, ◌&&◌}
use mathlib.Core.List.{List, [], ◌∷◌, ◌++◌, map, append_assoc}
use Rattle.std.specs.Prelude.{Ok}
use native.Mathlib.Omega.{arith}
use borrow.Author.Tests.{ne_eqb, leb-true}
use lib.Dec.{T, eqb, leb, ltb}
use lib.Ieee.Fits.{and_l, and_r}
use lib.ListN.{length, take, replicate}
use Rattle.kind.specs.Kind.{Named, names, number_of}
use Rattle.kind.specs.Name.{name_at, name_of as kindName, word as first_word}
use Rattle.kind.specs.declared.Kind.{Kind}
use Rattle.layout.specs.Each.{each}
use Rattle.lexitem.specs.Fault.{told, faults_in}
use Rattle.lexitem.specs.declared.answer.Answer.{Answer}
use Rattle.lexitem.specs.declared.item.LexItem.{LexItem}
use Rattle.line.specs.Bytes.{bytes}
use Rattle.line.specs.Columns.{◌⋯◌, reached_of}
use Rattle.line.specs.declared.fault.Fault.{Fault}
use Rattle.names.specs.Names.{is_word, name_of, default_text}
use Rattle.names.proofs.Laws.Names.{name-word, default-word}
use Rattle.number.specs.Trim.{trimmed}
use Rattle.page.specs.Numerals.{decimal, decimal_before}
use Rattle.account.specs.Account.{numbered, mark, marked, shown_line, under, named, said, fault_row, fault_rows, word, word_at, atom_words, words, head, is_cut, unread, unread_rows, accepted_rows, account_of}
use Rattle.account.specs.Rows.{joined, rows_of}

-- ---- texts without an LF
append-word : (s t : List ℕ) → T (is_word s) → T (is_word t) → T (is_word (s ++ t))
append-word [] t h k = k
append-word (b ∷ s) t h k = go (not (eqb b 10)) (and_l (not (eqb b 10)) (is_word s) h) (append-word s t (and_r (not (eqb b 10)) (is_word s) h) k)
  where
    go : (x : Bool) → T x → T (is_word (s ++ t)) → T (x && is_word (s ++ t))
    go true p q = q
    go false p q = p

either-word : (x : Bool) (s t : List ℕ) → T (is_word s) → T (is_word t) → T (is_word (cond x s t))
either-word true s t h k = h
either-word false s t h k = k

before-word : (k n : ℕ) (t : List ℕ) → T (is_word t) → T (is_word (decimal_before k n t))
unfolding decimal_before
before-word ℕ.zero n t h = h
before-word (suc k) n t h =
    either-word (ltb n 10) ((48 + n) ∷ t) (decimal_before k (n / 10) ((48 + n % 10) ∷ t)) (rw (ne_eqb (48 + n) 10 (λ e. omega (arith, e))) h)
    (before-word k (n / 10) ((48 + n % 10) ∷ t) (rw (ne_eqb (48 + n % 10) 10 (λ e. omega (arith, e))) h))

decimal-word : (n : ℕ) → T (is_word (decimal n))
unfolding decimal
decimal-word n = before-word 20 n [] tt

many-word : (n b : ℕ) → T (not (eqb b 10)) → T (is_word (replicate n b))
many-word ℕ.zero b h = tt
many-word (suc n) b h = append-word (b ∷ []) (replicate n b) (go (not (eqb b 10)) h) (many-word n b h)
  where
    go : (x : Bool) → T x → T (x && true)
    go true p = tt
    go false p = p

marked-word : (t : List ℕ) → T (is_word (marked t))
unfolding each mark
marked-word [] = tt
marked-word (b ∷ t) = go (leb 32 b) refl (leb b 126) (marked-word t)
  where
    go : (x : Bool) → leb 32 b ≡ x → (y : Bool) → T (is_word (marked t)) → T (is_word (cond (x && y) b 63 ∷ marked t))
    go true e true h = rw (ne_eqb b 10 (λ z. omega (arith, leb-true 32 b e, z))) h
    go true e false h = h
    go false e y h = h

-- the name of a kind, by computing
abbrev are_words : List Named → Bool
are_words [] = true
are_words (n ∷ ns) = is_word (first_word n.name) && are_words ns

place-word : (ns : List Named) → T (are_words ns) → (place : ℕ) → T (is_word (first_word (name_at place ns)))
place-word [] h place = tt
place-word (n ∷ ns) h ℕ.zero = and_l (is_word (first_word n.name)) (are_words ns) h
place-word (n ∷ ns) h (suc place) = place-word ns (and_r (is_word (first_word n.name)) (are_words ns) h) place

-- whose line it is
at-word : (l : List ℕ) (start end : ℕ) → T (is_word (word_at l start end))
unfolding word_at word
at-word l start end =
    let t = trimmed (reached_of l (start ⋯ end)) in
    either-word (eqb (length t) 0) [] (bytes " " ++ marked t) tt (append-word (bytes " ") (marked t) tt (marked-word t))

atom-word : (l : List ℕ) → T (is_word (atom_words l))
unfolding atom_words
atom-word l =
    append-word (word_at l 6 11 ++ word_at l 12 16 ++ word_at l 17 20 ++ word_at l 21 22) (word_at l 22 27)
    (append-word (word_at l 6 11 ++ word_at l 12 16 ++ word_at l 17 20) (word_at l 21 22)
    (append-word (word_at l 6 11 ++ word_at l 12 16) (word_at l 17 20) (append-word (word_at l 6 11) (word_at l 12 16) (at-word l 6 11) (at-word l 12 16)) (at-word l 17 20))
    (at-word l 21 22))
    (at-word l 22 27)

head-word : (number : ℕ) (k : Kind) (l : List ℕ) → T (is_word (head number k l))
unfolding head numbered words
head-word number k l =
    append-word (bytes "line " ++ decimal number ++ bytes ", " ++ kindName k) (words k l)
    (append-word (bytes "line " ++ decimal number ++ bytes ", ") (kindName k)
    (append-word (bytes "line " ++ decimal number) (bytes ", ") (append-word (bytes "line ") (decimal number) tt (decimal-word number)) tt)
    (place-word names tt (number_of k)))
    (either-word (leb 3 (number_of k) && leb (number_of k) 5) (atom_words l) [] (atom-word l) tt)

-- ---- rows
-- a text without an LF, then an LF, is one row
module _ (rest : List ℕ) where
  one-row : (w : List ℕ) → T (is_word w) → rows_of (w ++ 10 ∷ [] ++ rest) ≡ (w ++ 10 ∷ []) ∷ rows_of rest
  unfolding rows_of
  one-row [] h = refl
  one-row (b ∷ w) h = go (eqb b 10) (and_l (not (eqb b 10)) (is_word w) h) (one-row w (and_r (not (eqb b 10)) (is_word w) h))
    where
      go : (x : Bool) → T (not x) → rows_of (w ++ 10 ∷ [] ++ rest) ≡ (w ++ 10 ∷ []) ∷ rows_of rest
          → cond x ((b ∷ []) ∷ rows_of (w ++ 10 ∷ [] ++ rest)) (joined b (rows_of (w ++ 10 ∷ [] ++ rest))) ≡ (b ∷ w ++ 10 ∷ []) ∷ rows_of rest
      go true n e = absurd n
      go false n e = ap (joined b) e

-- a text that is one row
record IsRow (t : List ℕ) : Type 0 where
  body : List ℕ
  plain : T (is_word body)
  ends : t ≡ body ++ 10 ∷ []

row_apart : (t rest : List ℕ) → IsRow t → rows_of (t ++ rest) ≡ t ∷ rows_of rest
row_apart t rest r = rw r.ends (one-row rest r.body r.plain)

row-after : (w t : List ℕ) → T (is_word w) → IsRow t → IsRow (w ++ t)
row-after w t h r =
    record { body = w ++ r.body; plain = append-word w r.body h r.plain; ends = rw r.ends (sym (append_assoc w r.body (10 ∷ []))) }

either-row : (b : Bool) (s t : List ℕ) → IsRow s → IsRow t → IsRow (cond b s t)
either-row true s t h k = h
either-row false s t h k = k

numbered-row : (before : List ℕ) (n : ℕ) (after : List ℕ) → T (is_word before) → IsRow after → IsRow (numbered before n after)
unfolding numbered
numbered-row before n after h r = row-after (before ++ decimal n) after (append-word before (decimal n) h (decimal-word n)) r

unread-row : (cut : Bool) (size count : ℕ) → IsRow (unread cut size count)
unfolding unread
unread-row cut size count =
    either-row cut (numbered (bytes ": the line ends after column ") size (bytes "\n")) _
    (numbered-row (bytes ": the line ends after column ") size (bytes "\n") tt (record { body = []; plain = tt; ends = refl }))
    (either-row (eqb count 1) (bytes ": 1 field was not read\n") (numbered (bytes ": ") count (bytes " fields were not read\n"))
    (record { body = bytes ": 1 field was not read"; plain = tt; ends = refl })
    (numbered-row (bytes ": ") count (bytes " fields were not read\n") tt (record { body = bytes " fields were not read"; plain = tt; ends = refl })))

shown-row : (t : List ℕ) → IsRow (shown_line t)
unfolding shown_line
shown-row t =
    row-after (bytes "    " ++ marked (take 120 t)) (cond (ltb 120 (length t)) (bytes " ..\n") (bytes "\n"))
    (append-word (bytes "    ") (marked (take 120 t)) tt (marked-word (take 120 t)))
    (either-row (ltb 120 (length t)) (bytes " ..\n") (bytes "\n") (record { body = bytes " .."; plain = tt; ends = refl }) (record { body = []; plain = tt; ends = refl }))

under-word : (place size : ℕ) → T (is_word (under place size))
unfolding under
under-word place size =
    append-word (replicate (4 + place) 32) (replicate (min size (120 - place)) 94) (many-word (4 + place) 32 tt) (many-word (min size (120 - place)) 94 tt)

named-word : (k : Kind) (place : ℕ) → T (is_word (named k place))
unfolding named
named-word k place =
    append-word (bytes " " ++ name_of k place) (bytes ": not read; ") (append-word (bytes " ") (name_of k place) tt (name-word k place)) tt

fault-row : (k : Kind) (f : Fault) → IsRow (fault_row k f)
unfolding fault_row said
fault-row k f =
    row-after (under f.place f.length) _ (under-word f.place f.length)
    (row-after (named k f.place ++ default_text k f.place) (bytes " was put there\n")
    (append-word (named k f.place) (default_text k f.place) (named-word k f.place) (default-word k f.place))
    (record { body = bytes " was put there"; plain = tt; ends = refl }))

-- ---- all of them
rows-each : (k : Kind) (fs : List Fault) → rows_of (fault_rows k fs) ≡ map (fault_row k) fs
unfolding each rows_of
rows-each k [] = refl
rows-each k (f ∷ fs) = row_apart (fault_row k f) (fault_rows k fs) (fault-row k f) ∙ ap (λ (rs : List (List ℕ)). fault_row k f ∷ rs) (rows-each k fs)

unread-rows : (number : ℕ) (k : Kind) (l : List ℕ) (fs : List Fault)
    → rows_of (unread_rows number k l fs) ≡ (head number k l ++ unread (is_cut fs) (length l) (length fs)) ∷ shown_line l ∷ map (fault_row k) fs
unfolding unread_rows
unread-rows number k l fs =
    let first = head number k l ++ unread (is_cut fs) (length l) (length fs) in
    let begun = row-after (head number k l) (unread (is_cut fs) (length l) (length fs)) (head-word number k l) (unread-row (is_cut fs) (length l) (length fs)) in
    rw (append_assoc first (shown_line l) (fault_rows k fs), row_apart first (shown_line l ++ fault_rows k fs) begun, row_apart (shown_line l) (fault_rows k fs) (shown-row l), rows-each k fs) refl

module _ (l : List ℕ) (a : Answer) (x : LexItem) (read : a.outcome ≡ Ok x) where
  abbrev own : List Fault
  own = faults_in (told a.faults)

  pub told_once : (f : Fault) (fs : List Fault) → own ≡ f ∷ fs
      → rows_of (account_of l a)
      ≡ (head a.line a.faults.kind l ++ unread (is_cut own) (length l) (length own)) ∷ shown_line l ∷ map (fault_row a.faults.kind) own
  unfolding accepted_rows
  told_once f fs e = rw (read, e, ne_eqb (suc (length fs)) 0 (λ z. omega (arith, z))) (unread-rows a.line a.faults.kind l (f ∷ fs))

  pub quiet : (own ≡ [] → account_of l a ≡ []) × (account_of l a ≡ [] → own ≡ [])
  unfolding accepted_rows unread_rows head numbered
  quiet = (λ e. rw (read, e) refl, λ e. go own (rw read at e))
    where
      go : (fs : List Fault) → accepted_rows a.line a.faults.kind l fs ≡ [] → fs ≡ []
      go [] e = refl
      go (f ∷ fs) e =
          let some = rw (ne_eqb (suc (length fs)) 0 (λ z. omega (arith, z))) at e in
          let z : ◌≡◌ {A = ℕ} 0 1 = cc in
          absurd (omega arith)
