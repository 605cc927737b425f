-- How long an account can be, so that a program knows what to lend.
--     account-short     4,096 bytes have room for that of any line
-- Assumes nothing.
use Prim.Native.Nat.{ℕ, ◌+◌, ◌-◌, ◌*◌, ◌≤◌, ◌<◌, min}
use mathlib.Core.Path.{◌≡◌, refl}
use mathlib.Core.Bool.{Bool, ◌&&◌}
use mathlib.Core.List.{List, [], ◌∷◌, ◌++◌}
use Rattle.std.specs.Prelude.{Result, Ok, Err}
use native.Mathlib.Omega.{arith}
use lib.Dec.{leb, eqb, ltb, lit≤}
use lib.ListN.{length, take, drop, length-append, length-take, length-replicate}
use Rattle.kind.specs.Kind.{number_of}
use Rattle.kind.specs.declared.Kind.{Kind}
use Rattle.kind.proofs.Laws.Name.{name-most}
use Rattle.layout.specs.Each.{each}
use Rattle.lexer.specs.Lexed.{lexed}
use Rattle.lexer.specs.Refusals.{kind, given, faults}
use Rattle.lexer.proofs.Laws.Accepted.{accepted-faults}
use Rattle.lexitem.specs.declared.answer.Refusal.{Refusal}
use Rattle.lexitem.proofs.Laws.Few.{faults_fifteen}
use Rattle.lexitem.specs.declared.item.LexItem.{LexItem}
use Rattle.line.specs.Bytes.{bytes}
use Rattle.line.specs.Columns.{reached_of}
use Rattle.line.specs.declared.fault.Fault.{Fault}
use Rattle.names.proofs.Laws.Names.{name-short, default-short}
use Rattle.number.specs.Trim.{trimmed}
use Rattle.number.proofs.Laws.Trim.{trimmed-le}
use Rattle.page.proofs.Laws.Decimal.{decimal-most}
use Rattle.page.proofs.Laws.Lists.{either-most}
use Rattle.account.specs.Account.{numbered, marked, shown_line, under, named, said, fault_row, fault_rows, word, word_at, atom_words, words, head, is_cut, unread, unread_rows, accepted_rows, plural, column_of, too_long, high_byte, too_early, too_short, otherwise, why, shown_from, around, refused_rows, account_by, input_of, account}
use Rattle.account.proofs.Laws.Seen.{Seen, faults-seen}

numbered-most : (before : List ℕ) (n : ℕ) (after : List ℕ) → length (numbered before n after) ≤ length before + 20 + length after
unfolding numbered
numbered-most before n after = let h = decimal-most n in simp length-append (omega arith)

-- ---- a line as it is shown
marked-length : (t : List ℕ) → length (marked t) ≡ length t
unfolding each
marked-length [] = refl
marked-length (b ∷ t) = let h = marked-length t in omega arith

shown-most : (t : List ℕ) → length (shown_line t) ≤ 128
unfolding shown_line
shown-most t =
    let m = marked-length (take 120 t) in
    let n = length-take 120 t in
    let e = either-most 4 (ltb 120 (length t)) (bytes " ..\n") (bytes "\n") (lit≤ tt) (lit≤ tt) in
    simp length-append (omega arith)

-- ---- the rows of faults
row-most : (k : Kind) (f : Fault) → f.place < 120 → length (fault_row k f) ≤ 216
unfolding fault_row under said named
row-most k f h =
    let name = name-short k f.place in
    let default = default-short k f.place in
    let blanks = length-replicate {A = ℕ} (4 + f.place) 32 in
    let carets = length-replicate {A = ℕ} (min f.length (120 - f.place)) 94 in
    simp length-append (omega arith)

rows-most : (k : Kind) (fs : List Fault) → Seen fs → length (fault_rows k fs) ≤ 216 * length fs
unfolding each
rows-most k [] h = omega arith
rows-most k (f ∷ fs) h =
    let one = row-most k f h.0.0 in
    let rest = rows-most k fs h.1 in
    simp length-append (omega arith)

-- ---- whose line it is
word-most : (l : List ℕ) (start end : ℕ) → length (word_at l start end) ≤ 1 + (end - start)
unfolding word_at word reached_of
word-most l start end =
    let t = trimmed (take (end - start) (drop start l)) in
    let m = marked-length t in
    let k = trimmed-le (take (end - start) (drop start l)) in
    let n = length-take (end - start) (drop start l) in
    either-most (1 + (end - start)) (eqb (length t) 0) [] (bytes " " ++ marked t) (omega arith) (simp length-append (omega arith))

words-most : (k : Kind) (l : List ℕ) → length (words k l) ≤ 23
unfolding words atom_words
words-most k l =
    let a = word-most l 6 11 in
    let b = word-most l 12 16 in
    let c = word-most l 17 20 in
    let d = word-most l 21 22 in
    let e = word-most l 22 27 in
    either-most 23 (leb 3 (number_of k) && leb (number_of k) 5) (atom_words l) [] (simp length-append (omega arith)) (omega arith)

head-most : (number : ℕ) (k : Kind) (l : List ℕ) → length (head number k l) ≤ 56
unfolding head
head-most number k l =
    let n = numbered-most (bytes "line ") number (bytes ", ") in
    let name = name-most k in
    let w = words-most k l in
    simp length-append (omega arith)

unread-most : (cut : Bool) (size count : ℕ) → length (unread cut size count) ≤ 50
unfolding unread
unread-most cut size count =
    let a = numbered-most (bytes ": the line ends after column ") size (bytes "\n") in
    let b = numbered-most (bytes ": ") count (bytes " fields were not read\n") in
    either-most 50 cut _ _ (omega arith) (either-most 50 (eqb count 1) (bytes ": 1 field was not read\n") _ (lit≤ tt) (omega arith))

accepted-most : (number : ℕ) (k : Kind) (l : List ℕ) (fs : List Fault) → Seen fs → length fs ≤ 15 → length (accepted_rows number k l fs) ≤ 4096
unfolding accepted_rows unread_rows
accepted-most number k l fs seen few =
    let a = head-most number k l in
    let b = unread-most (is_cut fs) (length l) (length fs) in
    let c = shown-most l in
    let d = rows-most k fs seen in
    either-most 4096 (eqb (length fs) 0) [] _ (omega arith) (simp length-append (omega arith))

-- ---- a refused line
plural-most : (n : ℕ) → length (plural n) ≤ 1
unfolding plural
plural-most n = either-most 1 (eqb n 1) [] (bytes "s") (lit≤ tt) (lit≤ tt)

why-most : (number place size : ℕ) → length (why number place size) ≤ 100
unfolding why too_long high_byte too_short too_early otherwise
why-most number place size =
    let s = plural-most size in
    let a = numbered-most (bytes "it has ") size (bytes " byte") in
    let b = numbered-most (bytes "the byte in column ") (column_of place) (bytes " is above 127\n") in
    let c = numbered-most (bytes ", ") size (bytes " column") in
    let d = decimal-most place in
    either-most 100 (eqb number 2) _ _ (simp length-append (omega arith))
    (either-most 100 (eqb number 3) _ _ (omega arith)
    (either-most 100 (eqb number 6) _ _ (simp length-append (omega arith))
    (either-most 100 (eqb number 4) _ _ (lit≤ tt) (either-most 100 (eqb number 5) _ _ (lit≤ tt) (lit≤ tt)))))

refused-most : (line : ℕ) (l : List ℕ) (r : Refusal) → length (refused_rows line l r) ≤ 4096
unfolding refused_rows around
refused-most line l r =
    let a = numbered-most (bytes "line ") line (bytes ": not read: ") in
    let b = why-most r.number r.place r.length in
    let c = shown-most (drop (shown_from r.place) l) in
    let d = either-most 128 (eqb r.number 2) [] (shown_line (drop (shown_from r.place) l)) (omega arith) c in
    simp length-append (omega arith)

-- ---- a line
pub account-short : (number : ℕ) (l : List ℕ) → length (account number l) ≤ 4096
unfolding account
account-short number l = go (lexed (input_of number l)).outcome refl
  where
    go : (o : Result LexItem Refusal) → (lexed (input_of number l)).outcome ≡ o
        → length (account_by l (lexed (input_of number l)).line (lexed (input_of number l)).faults o) ≤ 4096
    go (Ok item) e =
        rw (accepted-faults (input_of number l) item e)
        (accepted-most _ _ l (faults (input_of number l)) (faults-seen number l) (faults_fifteen (kind (input_of number l)) (given (input_of number l))))
    go (Err r) e = refused-most _ l r
