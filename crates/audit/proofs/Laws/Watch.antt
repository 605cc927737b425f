-- What is known after lines is what the definitions say of them.
--     long-unread       a line over 1,024 bytes can't be read, so that no more of it than a front has to be at hand
--     watch-known       after any lines that take up fewer than 2^64 bytes
--     prefix_known      "after every prefix of the file"
--     judged-known, checked-watched     and so what is answered after the last line is what the definition says of the whole file
-- Assumes nothing.
use Prim.Native.Nat.{ℕ, ◌+◌, ◌^◌, ◌≤◌, ◌<◌}
use mathlib.Core.Path.{◌≡◌, refl, sym, ap, ◌∙◌}
use mathlib.Core.Bool.{Bool, true, false, cond, ◌||◌}
use mathlib.Core.List.{List, [], ◌∷◌, ◌++◌, append-nil}
use Rattle.std.proofs.Common.{Option, Some, None, Err}
use native.Mathlib.Omega.{arith}
use borrow.Author.Tests.{lt-ltb, ltb-true}
use lib.Dec.{eqb, ltb}
use lib.ListN.{length, take, drop, length-append, take-append-drop}
use lib.Seq.{append_snoc}
use Rattle.carry.specs.Pieces.{Stretch, texts, taken_by, stretches_of}
use Rattle.carry.proofs.Laws.Pieces.{texts-append, taken-append, texts-of, taken_of}
use Rattle.lexer.specs.Lexed.{lexed}
use Rattle.lexer.specs.Refusals.{excess}
use Rattle.lexitem.specs.Answer.{refusal}
use Rattle.master.specs.Master.{master_of}
use Rattle.tally.specs.Names.{is_master}
use Rattle.tally.specs.Tally.{counted, tallied, count_over}
use Rattle.tally.specs.declared.Tally.{Tally}
use Rattle.tally.proofs.Laws.Count.{tallied-count}
use Rattle.walker.specs.Lines.{lines_of}
use Rattle.walker.proofs.Laws.Lines.{lines-le}
use Rattle.audit.specs.Audit.{Placed, placed_at, placed, masters, masters_of, held_by, judged, checked}
use Rattle.audit.specs.Said.{answer, is_unread, said_of}
use Rattle.audit.specs.Watch.{read_as, first_master, with_master, further, seen, watched, fresh, masters_known, known, judged_as, judged_by}
use Rattle.master.specs.declared.record.Master.{Master}
use Rattle.audit.specs.declared.watch.Masters.TheVariants.{Several}

-- ---- a line over 1,024 bytes
long-refused : (l : List ℕ) → 1024 < length l → (answer l).outcome ≡ Err (refusal 2 1024 (excess (length l)))
unfolding lexed
long-refused l h = rw (lt-ltb 1024 (length l) h) refl

pub long-unread : (l : List ℕ) → 1024 < length l → said_of l ≡ None
unfolding is_unread
long-unread l h = rw (long-refused l h) (go (ltb 0 (answer l).faults.count) (eqb (length l) 6))
  where
    go : (b c : Bool) → cond (b || true || c) None (Some (master_of l)) ≡ None
    go true c = refl
    go false c = refl

-- ---- one MASTER line more
first-known : (text : List ℕ) (at : ℕ) → first_master text (length text) at ≡ read_as (said_of text) at (length text)
first-known text at = go (ltb 1024 (length text)) refl
  where
    go : (b : Bool) → ltb 1024 (length text) ≡ b → first_master text (length text) at ≡ read_as (said_of text) at (length text)
    go true e = rw (e, long-unread text (ltb-true 1024 (length text) e)) refl
    go false e = rw e refl

more-known : (xs : List Placed) (p : Placed) → with_master (masters_known xs) p.text (length p.text) p.start ≡ masters_known (xs ++ p ∷ [])
more-known [] p = first-known p.text p.start
more-known (x ∷ []) p = go (said_of x.text)
  where
    go : (s : Option Master) → with_master (read_as s x.start (length x.text)) p.text (length p.text) p.start ≡ Several p.start (length p.text)
    go None = refl
    go (Some m) = refl
more-known (x ∷ y ∷ xs) p = refl

-- ---- line after line, behind others
watched-from : (ss : List Stretch) (at : ℕ) (t : Tally) (xs : List Placed) → at + taken_by ss < 2 ^ 64
    → watched (record { at = at; counted = t; masters = masters_known xs }) ss
    ≡ record { at = at + taken_by ss; counted = tallied t (texts ss); masters = masters_known (xs ++ masters (placed at ss)) }
unfolding watched seen taken_by tallied
watched-from [] at t xs h = let same : at + 0 ≡ at = omega arith in rw (same, append-nil xs) refl
watched-from (s ∷ ss) at t xs h =
    let place : further at s.taken ≡ at + s.taken = omega arith in
    let sum : at + (s.taken + taken_by ss) ≡ at + s.taken + taken_by ss = omega arith in
    rw sum (go (is_master s.text) refl (further at s.taken) place (λ ys. watched-from ss (at + s.taken) (counted t s.text) ys (omega arith)))
  where
    go : (b : Bool) → is_master s.text ≡ b → (place : ℕ) → place ≡ at + s.taken
        → ((ys : List Placed) → watched (record { at = at + s.taken; counted = counted t s.text; masters = masters_known ys }) ss
        ≡ record { at = at + s.taken + taken_by ss; counted = tallied (counted t s.text) (texts ss); masters = masters_known (ys ++ masters (placed (at + s.taken) ss)) })
        → watched (record { at = place; counted = counted t s.text; masters = cond b (with_master (masters_known xs) s.text (length s.text) at) (masters_known xs) }) ss
        ≡ record { at = at + s.taken + taken_by ss; counted = tallied (counted t s.text) (texts ss); masters = masters_known (xs ++ cond b (placed_at at s.text ∷ masters (placed (at + s.taken) ss)) (masters (placed (at + s.taken) ss))) }
    go true m place e rest =
        rw (e, more-known xs (placed_at at s.text), ← append_snoc xs (placed_at at s.text) (masters (placed (at + s.taken) ss))) (rest (xs ++ placed_at at s.text ∷ []))
    go false m place e rest = rw e (rest xs)

pub watch-known : (ss : List Stretch) → taken_by ss < 2 ^ 64 → length (texts ss) < 2 ^ 64 → watched fresh ss ≡ known ss
watch-known ss h k =
    let zero : 0 + taken_by ss ≡ taken_by ss = omega arith in
    rw (zero, tallied-count (texts ss) k) at (watched-from ss 0 fresh.counted [] (omega arith))

-- ---- the lines of a file
front-fewer : (n : ℕ) (ss : List Stretch) → (taken_by (take n ss) ≤ taken_by ss) × (length (texts (take n ss)) ≤ length (texts ss))
front-fewer n ss =
    let all = take-append-drop n ss in
    let bytes = sym (ap taken_by all) ∙ taken-append (take n ss) (drop n ss) in
    let lines = sym (ap (λ (x : List Stretch). length (texts x)) all) ∙ ap length (texts-append (take n ss) (drop n ss)) ∙ length-append (texts (take n ss)) (texts (drop n ss)) in
    (omega arith, omega arith)

pub prefix_known : (f : List ℕ) (n : ℕ) → length f < 2 ^ 64 → watched fresh (take n (stretches_of f)) ≡ known (take n (stretches_of f))
prefix_known f n h =
    let few = front-fewer n (stretches_of f) in
    let bytes = few.0 in
    let lines = few.1 in
    let all = ap length (texts-of f) in
    watch-known (take n (stretches_of f)) (omega (arith, taken_of f)) (omega (arith, lines-le f))

pub judged-known : (ls : List (List ℕ)) (ms : List Placed) → judged_as (count_over ls) (masters_known ms) ≡ judged ls ms
judged-known ls [] = refl
judged-known ls (p ∷ []) = go (said_of p.text)
  where
    go : (s : Option Master) → judged_as (count_over ls) (read_as s p.start (length p.text)) ≡ held_by ls p s
    go None = refl
    go (Some m) = refl
judged-known ls (p ∷ q ∷ ps) = refl

pub checked-watched : (f : List ℕ) → length f < 2 ^ 64 → judged_by (watched fresh (stretches_of f)) ≡ checked f
unfolding checked masters_of
checked-watched f h =
    let all = ap length (texts-of f) in
    ap judged_by (watch-known (stretches_of f) (omega (arith, taken_of f)) (omega (arith, lines-le f)))
    ∙ rw (texts-of f) (judged-known (lines_of f) (masters (placed 0 (stretches_of f))))
