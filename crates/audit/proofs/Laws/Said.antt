-- What a MASTER line says.
--     master-front    a MASTER line begins with its name, whole
--     fault-unread,   what comes of the answer is what the line says: the lexer reads a MASTER line of more than six bytes as MASTER, and the six
--     read-said       alone as EMPTY
--     said-lexed      a MASTER line that can be read is one to the lexer too, and its record says these numbers
-- Assumes nothing.
use Prim.Native.Nat.{ℕ, ◌≤◌, ◌<◌}
use mathlib.Core.Path.{◌≡◌, refl, sym, ap, ◌∙◌}
use mathlib.Core.Bool.{Bool, true, false, cond, ◌&&◌, ◌||◌}
use mathlib.Core.List.{List, [], ◌∷◌}
use Rattle.std.proofs.Common.{Option, Some, None, Result, Ok, Err}
use native.Mathlib.Omega.{arith}
use borrow.Author.Tests.{eqb-true, eqb-false, lt-ltb}
use lib.Dec.{eqb, ltb}
use lib.ListN.{length, take, get_or}
use Rattle.kind.specs.Kind.{same, kind_of}
use Rattle.kind.specs.declared.Kind.TheVariants as kind
use Rattle.lexer.specs.Refusals as refusals
use Rattle.lexer.proofs.Laws.Accepted.{accepted-item}
use Rattle.lexitem.specs.Describe.{item_of}
use Rattle.lexitem.specs.declared.answer.Answer.{Answer}
use Rattle.lexitem.specs.declared.answer.Refusal.{Refusal}
use Rattle.lexitem.specs.declared.item.LexItem.{LexItem}
use Rattle.lexitem.specs.declared.item.LexItem.TheVariants as item
use Rattle.line.specs.Bytes.{bytes}
use Rattle.line.specs.declared.options.Mode.TheVariants.{Crate}
use Rattle.master.specs.Master.{master_of}
use Rattle.tally.specs.Names.{padded, is_master}
use Rattle.audit.specs.Said.{reading, answer, is_refused, is_unread, said_of, said_by, said_in}
use Rattle.master.specs.declared.record.Master.{Master}

-- ---- the name
same_text : (s t : List ℕ) → same s t ≡ true → s ≡ t
same_text [] [] e = refl
same_text [] (b ∷ t) e = cc
same_text (a ∷ s) [] e = cc
same_text (a ∷ s) (b ∷ t) e = go (eqb a b) (same s t) refl (λ q. same_text s t q) e
  where
    go : (u v : Bool) → eqb a b ≡ u → (v ≡ true → s ≡ t) → u && v ≡ true → a ∷ s ≡ b ∷ t
    go true v p q e = rw (eqb-true a b p, q e) refl
    go false v p q e = cc

-- a line of under six bytes would have a blank for the name's last byte
front : (l : List ℕ) → padded 6 l ≡ bytes "MASTER" → (6 ≤ length l) × (take 6 l ≡ bytes "MASTER")
front [] e = absurd (let z : ◌≡◌ {A = ℕ} 32 82 = ap (λ (t : List ℕ). get_or t 5 0) e in omega arith)
front (a ∷ []) e = absurd (let z : ◌≡◌ {A = ℕ} 32 82 = ap (λ (t : List ℕ). get_or t 5 0) e in omega arith)
front (a ∷ b ∷ []) e = absurd (let z : ◌≡◌ {A = ℕ} 32 82 = ap (λ (t : List ℕ). get_or t 5 0) e in omega arith)
front (a ∷ b ∷ c ∷ []) e = absurd (let z : ◌≡◌ {A = ℕ} 32 82 = ap (λ (t : List ℕ). get_or t 5 0) e in omega arith)
front (a ∷ b ∷ c ∷ d ∷ []) e = absurd (let z : ◌≡◌ {A = ℕ} 32 82 = ap (λ (t : List ℕ). get_or t 5 0) e in omega arith)
front (a ∷ b ∷ c ∷ d ∷ x ∷ []) e = absurd (let z : ◌≡◌ {A = ℕ} 32 82 = ap (λ (t : List ℕ). get_or t 5 0) e in omega arith)
front (a ∷ b ∷ c ∷ d ∷ x ∷ y ∷ t) e = (omega arith, e)

pub master-front : (l : List ℕ) → is_master l ≡ true → (6 ≤ length l) × (take 6 l ≡ bytes "MASTER")
unfolding is_master
master-front l e = front l (same_text (padded 6 l) (bytes "MASTER") e)

-- ---- the kind
take-three : (l : List ℕ) → take 3 l ≡ take 3 (take 6 l)
take-three [] = refl
take-three (a ∷ []) = refl
take-three (a ∷ b ∷ []) = refl
take-three (a ∷ b ∷ c ∷ t) = refl

six-empty : (l : List ℕ) → length l ≡ 6 → take 6 l ≡ bytes "MASTER" → kind_of false Crate l ≡ kind.Empty
unfolding kind_of
six-empty l n e =
    let three : take 3 l ≡ bytes "MAS" = take-three l ∙ ap (take 3) e in
    rw (n, three) refl

long-master : (l : List ℕ) → 6 < length l → take 6 l ≡ bytes "MASTER" → kind_of false Crate l ≡ kind.Master
unfolding kind_of
long-master l n e = rw (lt-ltb 6 (length l) n, e) refl

-- ---- what it says
said-fault : (l : List ℕ) → ((answer l).faults.count ≡ 0 → ⊥) → None ≡ said_of l
unfolding is_unread
said-fault l h = rw (lt-ltb 0 (answer l).faults.count (omega (arith, h))) refl

said_read : (l : List ℕ) → is_master l ≡ true → (answer l).faults.count ≡ 0 → said_in (answer l).outcome ≡ said_of l
unfolding is_unread
said_read l m none = rw none (go (answer l).outcome refl)
  where
    name : (6 ≤ length l) × (take 6 l ≡ bytes "MASTER")
    name = master-front l m

    accepted : (x : LexItem) → x ≡ item_of (kind_of false Crate l) (refusals.given (reading l)) → (b : Bool) → eqb (length l) 6 ≡ b
        → said_by x ≡ cond b None (Some (master_of l))
    accepted x e true six = rw (e, six-empty l (eqb-true (length l) 6 six) name.1) refl
    accepted x e false other =
        let more = eqb-false (length l) 6 other in
        let most = name.0 in
        rw (e, long-master l (omega (arith, more)) name.1) refl

    go : (o : Result LexItem Refusal) → (answer l).outcome ≡ o → said_in o ≡ cond (is_refused o || eqb (length l) 6) None (Some (master_of l))
    go (Err r) e = refl
    go (Ok x) e = accepted x (accepted-item (reading l) x e) (eqb (length l) 6) refl

-- a MASTER line that can be read is one to the lexer too, and its record says these numbers
pub said-lexed : (l : List ℕ) → is_master l ≡ true → is_unread l ≡ false → (answer l).outcome ≡ Ok (item.Master (master_of l))
unfolding is_unread
said-lexed l m read = go (answer l).outcome refl read
  where
    name : (6 ≤ length l) × (take 6 l ≡ bytes "MASTER")
    name = master-front l m

    six : (b c : Bool) → eqb (length l) 6 ≡ c → b || false || c ≡ false → 6 < length l
    six true c e h = absurd (let z : ◌≡◌ {A = ℕ} 0 1 = cc in omega arith)
    six false true e h = absurd (let z : ◌≡◌ {A = ℕ} 0 1 = cc in omega arith)
    six false false e h = let most = name.0 in omega (arith, eqb-false (length l) 6 e)

    no : (b : Bool) → b || true || eqb (length l) 6 ≡ false → ⊥
    no true h = let z : ◌≡◌ {A = ℕ} 0 1 = cc in omega arith
    no false h = let z : ◌≡◌ {A = ℕ} 0 1 = cc in omega arith

    go : (o : Result LexItem Refusal) → (answer l).outcome ≡ o → ltb 0 (answer l).faults.count || is_refused o || eqb (length l) 6 ≡ false
        → (answer l).outcome ≡ Ok (item.Master (master_of l))
    go (Err r) e h = absurd (no (ltb 0 (answer l).faults.count) h)
    go (Ok x) e h =
        let long = six (ltb 0 (answer l).faults.count) (eqb (length l) 6) refl h in
        let is : x ≡ item.Master (master_of l) = accepted-item (reading l) x e ∙ rw (long-master l long name.1) refl in
        rw (← is) e

-- the same of what the lexer answered
module _ (l : List ℕ) (a : Answer) (is : a ≡ answer l) where
  pub fault-unread : (a.faults.count ≡ 0 → ⊥) → None ≡ said_of l
  fault-unread h = said-fault l (λ z. h (ap (λ (x : Answer). x.faults.count) is ∙ z))

  pub read-said : (r : Option Master) → is_master l ≡ true → a.faults.count ≡ 0 → r ≡ said_in a.outcome → r ≡ said_of l
  read-said r m none e =
      e ∙ ap (λ (x : Answer). said_in x.outcome) is ∙ said_read l m (sym (ap (λ (x : Answer). x.faults.count) is) ∙ none)
