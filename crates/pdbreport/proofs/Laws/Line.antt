-- What is told of a line that was held is what is told of its piece's line.
--     over-answer                   a line over 1,024 bytes is refused by its length alone
--     over-account, over-entered    so the bytes that were kept tell of it what all of them do
--     held-text, held-ledger        of so many bytes of a piece
--     ended-text, ended-ledger      of the line that an LF ends
--     last-told                     and of the last one
-- Assumes nothing.
use Prim.Native.Nat.{ℕ, suc, ◌-◌, ◌≤◌, ◌<◌, min}
use mathlib.Core.Path.{◌≡◌, refl, sym, ap, ◌∙◌}
use mathlib.Core.Bool.{Bool, true, false, cond}
use mathlib.Core.List.{List, [], ◌∷◌, append-nil}
use native.Mathlib.Omega.{arith}
use borrow.Author.Tests.{ltb-true, ltb-false, lt-ltb, le-ltb, eq-eqb, ne_eqb, eqb-true}
use lib.ListN.{length, take}
use lib.Seq.{take-length, take-take, length-take-le}
use lib.Dec.{eqb, ltb}
use Rattle.account.specs.Account.{account, account_of, around, refused_rows}
use Rattle.carry.specs.Held.{most_kept, most_count, State, ended_size}
use Rattle.carry.specs.Pieces.{ended_line, last_line}
use Rattle.carry.proofs.Laws.Held.{ends_cr, ended-take, Holds}
use Rattle.ledger.specs.Ledger.{with_line, entered}
use Rattle.lexer.specs.Lexed.{lexed}
use Rattle.lexer.specs.Refusals.{excess}
use Rattle.pdbreport.specs.Told.{answer_of, accounts, all_entered}
use Rattle.pdbreport.specs.Fed.{held_line, over_answer, held_answer, held_text, held_ledger, Progress, last_text, last_ledger}

-- ---- a line over 1,024 bytes
pub over-answer : (n : ℕ) (l : List ℕ) → most_kept < length l → answer_of n l ≡ over_answer n (length l)
unfolding lexed
over-answer n l h = rw (lt-ltb most_kept (length l) h) refl

pub over-account : (l m : List ℕ) (n size : ℕ) → account_of l (over_answer n size) ≡ account_of m (over_answer n size)
unfolding refused_rows around
over-account l m n size = refl

pub over-entered : (ws l m : List ℕ) (n size : ℕ) → take most_kept l ≡ take most_kept m → entered ws l (over_answer n size) ≡ entered ws m (over_answer n size)
unfolding entered with_line
over-entered ws l m n size e = rw e refl

-- ---- the line that is held: so many bytes of a piece, and a count that agrees with theirs as far as an excess goes
module _ (n size count : ℕ) (p : List ℕ) (s : State) (h : Holds p n s) (few : size ≤ length p) (same : min count 4294968319 ≡ min size 4294968319) where
  abbrev line : List ℕ
  line = take size p

  -- a short one
  small : size ≤ most_kept → (held_answer s.held.number count s.kept ≡ answer_of n line) × (held_line count s.kept ≡ line)
  unfolding held_answer held_line
  small a =
      let m : count ≡ size = omega arith in
      (rw (h.number, m, le-ltb most_kept size a, h.bytes size few a) refl, rw (m, le-ltb most_kept size a, h.bytes size few a) refl)

  -- a long one
  large : most_kept < size → (held_answer s.held.number count s.kept ≡ over_answer n size) × (held_line count s.kept ≡ s.kept)
  unfolding held_answer held_line
  large a =
      let m : excess count ≡ excess size = omega arith in
      (rw (h.number, lt-ltb most_kept count (omega arith), m) refl, rw (lt-ltb most_kept count (omega arith)) refl)

  front : most_kept < size → take most_kept s.kept ≡ take most_kept line
  front a = h.bytes most_kept (omega arith) (omega arith) ∙ sym (take-take most_kept size p (omega arith))

  long : most_kept < size → answer_of n line ≡ over_answer n size
  long a =
      let many = length-take-le size p few in
      over-answer n line (omega arith) ∙ ap (over_answer n) many

  pub held-text : held_text s.held.number count s.kept ≡ account n line
  unfolding held_text account
  held-text = go (ltb most_kept size) refl
    where
      go : (b : Bool) → ltb most_kept size ≡ b → account_of (held_line count s.kept) (held_answer s.held.number count s.kept) ≡ account_of line (answer_of n line)
      go true e =
          let a = ltb-true most_kept size e in
          rw ((large a).0, (large a).1, long a) (over-account s.kept line n size)
      go false e = let a = ltb-false most_kept size e in rw ((small a).0, (small a).1) refl

  pub held-ledger : (ws : List ℕ) → held_ledger ws s.held.number count s.kept ≡ entered ws line (answer_of n line)
  unfolding held_ledger
  held-ledger ws = go (ltb most_kept size) refl
    where
      go : (b : Bool) → ltb most_kept size ≡ b
          → entered ws (held_line count s.kept) (held_answer s.held.number count s.kept) ≡ entered ws line (answer_of n line)
      go true e =
          let a = ltb-true most_kept size e in
          rw ((large a).0, (large a).1, long a) (over-entered ws s.kept line n size (front a))
      go false e = let a = ltb-false most_kept size e in rw ((small a).0, (small a).1) refl

-- ---- an LF ends it
-- how many bytes are left of a piece, and how many are counted
ended-agrees : (n m : ℕ) (c : Bool) → m ≡ min n most_count
    → min (cond (eqb m 0) 0 (cond c (m - 1) m)) 4294968319 ≡ min (cond c (n - 1) n) 4294968319
ended-agrees n m c e = go (eqb m 0) refl c
  where
    go : (z : Bool) → eqb m 0 ≡ z → (c : Bool) → min (cond z 0 (cond c (m - 1) m)) 4294968319 ≡ min (cond c (n - 1) n) 4294968319
    go true f true = let g = eqb-true m 0 f in omega arith
    go true f false = let g = eqb-true m 0 f in omega arith
    go false f true = omega arith
    go false f false = omega arith

module _ (n : ℕ) (p : List ℕ) (s : State) (h : Holds p n s) where
  abbrev size : ℕ
  size = cond (ends_cr p) (length p - 1) (length p)

  size-le : (c : Bool) → cond c (length p - 1) (length p) ≤ length p
  size-le true = omega arith
  size-le false = omega arith

  agrees : min (ended_size s.held) 4294968319 ≡ min size 4294968319
  agrees = rw h.cr (ended-agrees (length p) s.held.total (ends_cr p) h.count)

  pub ended-text : held_text s.held.number (ended_size s.held) s.kept ≡ account n (ended_line p)
  ended-text = rw (ended-take p) (held-text n size (ended_size s.held) p s h (size-le (ends_cr p)) agrees)

  pub ended-ledger : (ws : List ℕ) → held_ledger ws s.held.number (ended_size s.held) s.kept ≡ entered ws (ended_line p) (answer_of n (ended_line p))
  ended-ledger ws = rw (ended-take p) (held-ledger n size (ended_size s.held) p s h (size-le (ends_cr p)) agrees ws)

-- ---- the end of the input ends it
pub last-told : (n : ℕ) (p : List ℕ) (x : Progress) → Holds p n x.state
    → (last_text x ≡ accounts n (last_line p)) × (last_ledger x ≡ all_entered x.ledger n (last_line p))
unfolding last_text last_ledger accounts all_entered
last-told n [] x h = let c = h.count in let z = eq-eqb x.state.held.total 0 (omega arith) in (rw z refl, rw z refl)
last-told n (b ∷ t) x h =
    let c = h.count in
    let some : x.state.held.total ≡ 0 → ⊥ = λ z. omega arith in
    let z = ne_eqb x.state.held.total 0 some in
    let text = held-text n (suc (length t)) x.state.held.total (b ∷ t) x.state h (omega arith) (omega arith) in
    let ledger = held-ledger n (suc (length t)) x.state.held.total (b ∷ t) x.state h (omega arith) (omega arith) x.ledger in
    (rw (z, text, take-length t) (sym (append-nil (account n (b ∷ t)))), rw (z, ledger, take-length t) refl)
