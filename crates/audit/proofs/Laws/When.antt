-- When the checker answers what, in words of the file's lines.
--     masters-counted                       as many MASTER lines are found as the file has
--     ten_when, eleven_when, twelve_when    10 exactly when no line is a MASTER line; 11 exactly when there are two or more; 12 exactly when there is
--                                           one that can't be read
--     checked_when                          nothing is refused exactly when there is one that can
--     eleven_where, twelve_where            the place and the length are the second one's, and the one's
--     compared_is                           what is handed out: the count over all lines, and what the line says
--     bit_when                              bit n is set exactly when the n-th number of the MASTER line isn't the count
-- Assumes nothing.
use Prim.Native.Nat.{ℕ, zero, suc, ◌+◌, ◌≤◌, ◌<◌}
use mathlib.Core.Path.{◌≡◌, refl, sym, ap, ◌∙◌, subst}
use mathlib.Core.Logic.{◌↔◌, ◌≢◌, inl, inr}
use mathlib.Core.Bool.{Bool, true, false, cond, ◌||◌}
use mathlib.Core.List.{List, [], ◌∷◌}
use Rattle.std.proofs.Common.{Some, None, Ok}
use native.Mathlib.Omega.{arith}
use borrow.Author.Tests.{eqb-true, eqb-false, ltb-true, ltb-false}
use lib.Dec.{eqb, ltb}
use lib.ListN.{length, get_or}
use Rattle.carry.specs.Pieces.{Stretch, texts, stretches_of}
use Rattle.carry.proofs.Laws.Pieces.{texts-of}
use Rattle.field.specs.Number.{unsigned_at}
use Rattle.master.specs.Master.{at, master_of}
use Rattle.tally.specs.Names.{is_master}
use Rattle.tally.specs.Tally.{count, count_over}
use Rattle.tally.specs.Compare.{counts_of, said_by, bit_at}
use Rattle.tally.proofs.Laws.Bits.{bit_differs}
use Rattle.tally.proofs.Laws.Count.{second_none}
use Rattle.walker.specs.Lines.{lines_of}
use Rattle.audit.specs.Said.{answer, is_refused, is_unread}
use Rattle.audit.specs.Audit.{Placed, placed_at, placed, masters, masters_of, refused, held_by, held, judged, checked}
use Rattle.audit.specs.Found.{differs}
use Rattle.audit.specs.When.{masters_in, number_of, Unreadable}
use Rattle.audit.specs.declared.Compared.{Compared}

-- ---- how many there are
masters-length : (at : ℕ) (ss : List Stretch) → length (masters (placed at ss)) ≡ masters_in (texts ss)
unfolding masters_in
masters-length at [] = refl
masters-length at (s ∷ ss) = go (is_master s.text) (masters-length (at + s.taken) ss)
  where
    go : (b : Bool) → length (masters (placed (at + s.taken) ss)) ≡ masters_in (texts ss)
        → length (cond b (placed_at at s.text ∷ masters (placed (at + s.taken) ss)) (masters (placed (at + s.taken) ss)))
        ≡ cond b (suc (masters_in (texts ss))) (masters_in (texts ss))
    go true e = ap suc e
    go false e = e

pub masters-counted : (f : List ℕ) → length (masters_of f) ≡ masters_in (lines_of f)
unfolding masters_of
masters-counted f = masters-length 0 (stretches_of f) ∙ ap masters_in (texts-of f)

-- ---- the one line
unread_when : (l : List ℕ) → (is_unread l ≡ true) ↔ Unreadable l
unfolding is_unread
unread_when l = go (ltb 0 (answer l).faults.count) (is_refused (answer l).outcome) (eqb (length l) 6) refl refl refl
  where
    go : (a b c : Bool) → ltb 0 (answer l).faults.count ≡ a → is_refused (answer l).outcome ≡ b → eqb (length l) 6 ≡ c
        → (a || b || c ≡ true) ↔ Unreadable l
    go true b c e f g = (λ _. inl (inl (λ z. let h = ltb-true 0 (answer l).faults.count e in omega arith)), λ _. refl)
    go false true c e f g = (λ _. inl (inr f), λ _. refl)
    go false false true e f g = (λ _. inr (eqb-true (length l) 6 g), λ _. refl)
    go false false false e f g = (λ h. absurd (let z : ◌≡◌ {A = ℕ} 0 1 = cc in omega arith), back)
      where
        back : Unreadable l → false ≡ true
        back (inl (inl n)) = absurd (n (let h = ltb-false 0 (answer l).faults.count e in omega arith))
        back (inl (inr r)) = sym f ∙ r
        back (inr six) = absurd (eqb-false (length l) 6 g six)

-- ---- what is answered, by the lines that were found
held_number : (ls : List (List ℕ)) (p : Placed) → number_of (held ls p) ≡ cond (is_unread p.text) 12 0
held_number ls p = go (is_unread p.text)
  where
    go : (b : Bool) → number_of (held_by ls p (cond b None (Some (master_of p.text)))) ≡ cond b 12 0
    go true = refl
    go false = refl

-- a number that isn't there
module _ (b : Bool) (n : ℕ) where
  no_number : n ≢ 12 → n ≢ 0 → cond b 12 0 ≡ n → ⊥
  no_number h k e = go b e
    where
      go : (b : Bool) → cond b 12 0 ≡ n → ⊥
      go true e = h (sym e)
      go false e = k (sym e)

judged_ten : (ls : List (List ℕ)) (ms : List Placed) → (number_of (judged ls ms) ≡ 10) ↔ (length ms ≡ 0)
judged_ten ls [] = (λ _. refl, λ _. refl)
judged_ten ls (p ∷ []) =
    (λ e. absurd (no_number (is_unread p.text) 10 (λ z. omega arith) (λ z. omega arith) (sym (held_number ls p) ∙ e)), λ e. absurd (omega arith))
judged_ten ls (p ∷ q ∷ ps) = (λ e. absurd (omega arith), λ e. absurd (omega arith))

judged_eleven : (ls : List (List ℕ)) (ms : List Placed) → (number_of (judged ls ms) ≡ 11) ↔ (2 ≤ length ms)
judged_eleven ls [] = (λ e. absurd (omega arith), λ e. absurd (omega arith))
judged_eleven ls (p ∷ []) =
    (λ e. absurd (no_number (is_unread p.text) 11 (λ z. omega arith) (λ z. omega arith) (sym (held_number ls p) ∙ e)), λ e. absurd (omega arith))
judged_eleven ls (p ∷ q ∷ ps) = (λ e. omega arith, λ e. refl)

pub ten_when : (f : List ℕ) → (number_of (checked f) ≡ 10) ↔ (masters_in (lines_of f) ≡ 0)
unfolding checked
ten_when f = rw (← masters-counted f) (judged_ten (lines_of f) (masters_of f))

pub eleven_when : (f : List ℕ) → (number_of (checked f) ≡ 11) ↔ (2 ≤ masters_in (lines_of f))
unfolding checked
eleven_when f = rw (← masters-counted f) (judged_eleven (lines_of f) (masters_of f))

-- the one that there is, with some property
abbrev pub One : List ℕ → (List ℕ → Type 0) → Type 0
One f P = (p : Placed) × (masters_of f ≡ p ∷ []) × P p.text

module _ (f : List ℕ) (n : ℕ) (b : Bool) (tells : (c : Bool) → (cond c 12 0 ≡ n) ↔ (c ≡ b)) (h : n ≢ 10) (k : n ≢ 11) where
  judged-one : (ms : List Placed) → masters_of f ≡ ms → (number_of (judged (lines_of f) ms) ≡ n) → One f (λ l. is_unread l ≡ b)
  judged-one [] is e = absurd (h (sym e))
  judged-one (p ∷ []) is e = (p, is, (tells (is_unread p.text)).0 (sym (held_number (lines_of f) p) ∙ e))
  judged-one (p ∷ q ∷ ps) is e = absurd (k (sym e))

  one-judged : One f (λ l. is_unread l ≡ b) → number_of (checked f) ≡ n
  unfolding checked
  one-judged (p, is, e) = rw is (held_number (lines_of f) p ∙ (tells (is_unread p.text)).1 e)

  one_when : (number_of (checked f) ≡ n) ↔ One f (λ l. is_unread l ≡ b)
  unfolding checked
  one_when = (judged-one (masters_of f) refl, one-judged)

twelve_tells : (c : Bool) → (◌≡◌ {A = ℕ} (cond c 12 0) 12) ↔ (c ≡ true)
twelve_tells true = (λ _. refl, λ _. refl)
twelve_tells false = (λ e. absurd (omega arith), λ e. absurd (let z : ◌≡◌ {A = ℕ} 0 1 = cc in omega arith))

none-tells : (c : Bool) → (◌≡◌ {A = ℕ} (cond c 12 0) 0) ↔ (c ≡ false)
none-tells true = (λ e. absurd (omega arith), λ e. absurd (let z : ◌≡◌ {A = ℕ} 0 1 = cc in omega arith))
none-tells false = (λ _. refl, λ _. refl)

pub twelve_when : (f : List ℕ) → (number_of (checked f) ≡ 12) ↔ One f Unreadable
twelve_when f =
    let w = one_when f 12 true twelve_tells (λ z. omega arith) (λ z. omega arith) in
    (λ e. let (p, is, u) = w.0 e in (p, is, (unread_when p.text).0 u), λ o. let (p, is, u) = o in w.1 (p, is, (unread_when p.text).1 u))

pub checked_when : (f : List ℕ) → (number_of (checked f) ≡ 0) ↔ One f (λ l. Unreadable l → ⊥)
checked_when f =
    let w = one_when f 0 false none-tells (λ z. omega arith) (λ z. omega arith) in
    (λ e. let (p, is, u) = w.0 e in (p, is, λ r. let v = (unread_when p.text).1 r in absurd (let z : ◌≡◌ {A = ℕ} 0 1 = cc in omega arith)), λ o. let (p, is, r) = o in w.1 (p, is, read p.text r))
  where
    read : (l : List ℕ) → (Unreadable l → ⊥) → is_unread l ≡ false
    read l r = go (is_unread l) refl
      where
        go : (b : Bool) → is_unread l ≡ b → b ≡ false
        go true e = absurd (r ((unread_when l).0 e))
        go false e = refl

-- ---- where they stand
pub eleven_where : (f : List ℕ) (p q : Placed) (ps : List Placed) → masters_of f ≡ p ∷ q ∷ ps → checked f ≡ refused 11 q.start (length q.text)
unfolding checked
eleven_where f p q ps e = rw e refl

pub twelve_where : (f : List ℕ) (p : Placed) → masters_of f ≡ p ∷ [] → is_unread p.text ≡ true → checked f ≡ refused 12 p.start (length p.text)
unfolding checked
twelve_where f p e u = rw (e, u) refl

-- ---- what is handed out
pub compared_is : (f : List ℕ) (c : Compared) → checked f ≡ Ok c
    → One f (λ l. c ≡ record { counted = count_over (lines_of f); said = master_of l })
unfolding checked
compared_is f c e = go (masters_of f) refl e
  where
    held-is : (p : Placed) (b : Bool) → held_by (lines_of f) p (cond b None (Some (master_of p.text))) ≡ Ok c
        → c ≡ record { counted = count_over (lines_of f); said = master_of p.text }
    held-is p true e = cc
    held-is p false e = cc

    go : (ms : List Placed) → masters_of f ≡ ms → judged (lines_of f) ms ≡ Ok c
        → One f (λ l. c ≡ record { counted = count_over (lines_of f); said = master_of l })
    go [] is e = absurd (let z : ◌≡◌ {A = ℕ} 0 1 = cc in omega arith)
    go (p ∷ []) is e = (p, is, held-is p (is_unread p.text) e)
    go (p ∷ q ∷ ps) is e = absurd (let z : ◌≡◌ {A = ℕ} 0 1 = cc in omega arith)

-- the n-th of the twelve counts, and of the twelve numbers of a line
module _ (ls : List (List ℕ)) (l : List ℕ) where
  nth : (n : ℕ) → n < 12 → (get_or (counts_of (count_over ls)) n 0 ≡ count n ls) × (get_or (said_by (master_of l)) n 0 ≡ unsigned_at l (at n))
  nth zero h = (refl, refl)
  nth (suc zero) h = (sym (second_none ls), refl)
  nth (suc (suc zero)) h = (refl, refl)
  nth (suc (suc (suc zero))) h = (refl, refl)
  nth (suc (suc (suc (suc zero)))) h = (refl, refl)
  nth (suc (suc (suc (suc (suc zero))))) h = (refl, refl)
  nth (suc (suc (suc (suc (suc (suc zero)))))) h = (refl, refl)
  nth (suc (suc (suc (suc (suc (suc (suc zero))))))) h = (refl, refl)
  nth (suc (suc (suc (suc (suc (suc (suc (suc zero)))))))) h = (refl, refl)
  nth (suc (suc (suc (suc (suc (suc (suc (suc (suc zero))))))))) h = (refl, refl)
  nth (suc (suc (suc (suc (suc (suc (suc (suc (suc (suc zero)))))))))) h = (refl, refl)
  nth (suc (suc (suc (suc (suc (suc (suc (suc (suc (suc (suc zero))))))))))) h = (refl, refl)
  nth (suc (suc (suc (suc (suc (suc (suc (suc (suc (suc (suc (suc n)))))))))))) h = absurd (omega arith)

pub bit_when : (f : List ℕ) (c : Compared) → checked f ≡ Ok c → (n : ℕ) → n < 12
    → One f (λ l. (bit_at n (differs c) ≡ 1) ↔ (count n (lines_of f) ≢ unsigned_at l (at n)))
bit_when f c e n h =
    let (p, is, same) = compared_is f c e in
    let these = nth (lines_of f) p.text n h in
    let tells = bit_differs (counts_of (count_over (lines_of f))) (said_by (master_of p.text)) n refl h in
    let now : (bit_at n (differs (record { counted = count_over (lines_of f); said = master_of p.text })) ≡ 1)
    ↔ (count n (lines_of f) ≢ unsigned_at p.text (at n)) = rw (these.0, these.1) at tells in
    (p, is, subst (λ (x : Compared). (bit_at n (differs x) ≡ 1) ↔ (count n (lines_of f) ≢ unsigned_at p.text (at n))) (sym same) now)
