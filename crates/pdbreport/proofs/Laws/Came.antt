-- The code's steps.
--     came-more                                more bytes came
--     held-short, put-within, front-put        what is due for a line has room in 4,096 bytes, and stands at their front
--     next-short, next-due, next-entered       a line with its answer is told of
--     next-over, next-front                    what they are, if it is too long and if it isn't
--     step-came, step-all, step-ended          bytes of a part up to an LF
--     loop_came, loop_next, loop_all           and all of it
--     came-first, came-less                    before the first read, and with fewer to come
--     came-part, came-next                     at a read, and behind it
--     came-sums                                the end of the input
-- Assumes nothing.
use Prim.Native.Nat.{ℕ, suc, ◌+◌, ◌-◌, ◌*◌, ◌^◌, ◌≤◌, ◌<◌}
use mathlib.Core.Path.{◌≡◌, refl, sym, ap, ◌∙◌, subst}
use mathlib.Core.Bool.{Bool, true, false, cond}
use mathlib.Core.List.{List, [], ◌∷◌, ◌++◌}
use native.Mathlib.Omega.{arith}
use borrow.Author.Tests.{lt-ltb, le-ltb, ltb-true}
use lib.Dec.{eqb, ltb}
use lib.ListN.{length, take, drop, replicate, length-append, length-take, length-drop, length-replicate}
use lib.Seq.{take_all, take_at, take-add, length-take-le}
use Rattle.account.specs.Account.{account, account_of}
use Rattle.account.proofs.Laws.Short.{account-short}
use Rattle.carry.specs.Held.{State, most_kept, none, ended_size, Absorbs}
use Rattle.carry.specs.declared.held.Held.{Held}
use Rattle.carry.specs.declared.keep.Absorbed.{Absorbed}
use Rattle.ledger.specs.Ledger.{entered}
use Rattle.ledger.specs.Summary.{summary}
use Rattle.lexitem.specs.declared.answer.Answer.{Answer}
use Rattle.page.specs.Page.{Page, page, put}
use Rattle.page.proofs.Laws.Page.{put_count, put_front}
use Rattle.walker.specs.Lines.{before_lf, number_behind}
use Rattle.pdbreport.specs.Told.{answer_of}
use Rattle.pdbreport.specs.Fed.{held_line, over_answer, held_answer, held_text, held_ledger, Progress, progress, ended, fed_all, start, last_ledger, Came, Ends, Due, Next, Sums, Takes}
use Rattle.pdbreport.proofs.Laws.Bytes.{fed-append, fed-absorbed, fed-lf}
use Rattle.pdbreport.proofs.Laws.Cuts.{cuts_told, cuts_entered}
use Rattle.pdbreport.proofs.Laws.Line.{over-answer, over-account}

pub came-more : (x y : Progress) (a : List ℕ) (m k : ℕ) → Came x m → y ≡ fed_all x a → length a + k ≤ m → Came y k
came-more x y a m k c e h =
    let few = c.few in
    let all = length-append c.bytes a in
    record {
      bytes = c.bytes ++ a;
      leave = e ∙ ap (λ (z : Progress). fed_all z a) c.leave ∙ sym (fed-append start c.bytes a);
      few = omega arith;
    }

-- ---- what is due for the line that is held
pub held-short : (number size : ℕ) (kept : List ℕ) → length (held_text number size kept) ≤ 4096
unfolding held_text held_line held_answer account
held-short number size kept = go (ltb most_kept size) refl
  where
    go : (b : Bool) → ltb most_kept size ≡ b
        → length (account_of (cond b kept (take size kept)) (cond b (over_answer number size) (answer_of number (take size kept)))) ≤ 4096
    go true e =
        let some : List ℕ = replicate size 0 in
        let long : length some ≡ size = length-replicate {A = ℕ} size 0 in
        let over = ltb-true most_kept size e in
        let answer : answer_of number some ≡ over_answer number size = over-answer number some (omega arith) ∙ ap (over_answer number) long in
        subst (λ (t : List ℕ). length t ≤ 4096) (over-account some kept number size)
        (subst (λ (a : Answer). length (account_of some a) ≤ 4096) answer (account-short number some))
    go false e = account-short number (take size kept)

module _ (before after text : List ℕ) (n : ℕ) (e : page after n ≡ put (page before 0) text) (size : length before ≡ 4096) (short : length text ≤ 4096) where
  put-size : n ≡ length text
  put-size = ap (λ (p : Page). p.at) e ∙ put_count before text (omega arith)

  pub put-within : n ≤ 4096
  put-within = let m = put-size in omega arith

  pub front-put : take n after ≡ text
  front-put =
      let bytes = ap (λ (p : Page). p.bytes) e ∙ put_front before text (omega arith) (omega arith) in
      rw (put-size, bytes) (take_at text _ _ refl)

module _ (x : Progress) (size : ℕ) (line : List ℕ) (a : Answer) (next : Next x size line a) where
  next-text : account_of line a ≡ held_text x.state.held.number size x.state.kept
  unfolding held_text
  next-text = rw (next.text, next.tells) refl

  pub next-short : length (account_of line a) ≤ 4096
  next-short = rw next-text (held-short x.state.held.number size x.state.kept)

  pub next-due : (text : List ℕ) → text ≡ account_of line a → Due x size text
  next-due text e = record { came = next.came; ends = next.ends; says = e ∙ next-text }

  pub next-entered : (ws : List ℕ) → ws ≡ entered x.ledger line a → ws ≡ held_ledger x.ledger x.state.held.number size x.state.kept
  unfolding held_ledger
  next-entered ws e = e ∙ rw (next.text, next.tells) refl

module _ (x : Progress) (size : ℕ) (came : Came x 0) (ends : Ends x.state.held size) where
  pub next-over : (a : Answer) → most_kept < size → a ≡ over_answer x.state.held.number size → Next x size x.state.kept a
  unfolding held_line held_answer
  next-over a h e =
      let test = lt-ltb most_kept size h in
      record { came = came; ends = ends; text = rw test refl; tells = rw test e }

  pub next-front : (a : Answer) → size ≤ most_kept → a ≡ answer_of x.state.held.number (take size x.state.kept) → Next x size (take size x.state.kept) a
  unfolding held_line held_answer
  next-front a h e =
      let test = le-ltb most_kept size h in
      record { came = came; ends = ends; text = rw test refl; tells = rw test e }

-- ---- bytes of a part up to an LF
before-le : (t : List ℕ) → before_lf t ≤ length t
unfolding before_lf
before-le [] = omega arith
before-le (b ∷ t) = go (eqb b 10) (before-le t)
  where
    go : (c : Bool) → before_lf t ≤ length t → cond c 0 (suc (before_lf t)) ≤ suc (length t)
    go true h = omega arith
    go false h = omega arith

module _ (x : Progress) (part : List ℕ) (at : ℕ) (kept : List ℕ) (a : Absorbed) (h : Absorbs x.state (drop at part) at kept a) (inside : at < length part) where
  abbrev t : List ℕ
  t = drop at part

  abbrev now : Progress
  now = progress x.ledger a.held kept

  now-is : now ≡ fed_all x (take (before_lf t) t)
  now-is = ap (λ (s : State). record { ledger = x.ledger; state = s }) h.state ∙ sym (fed-absorbed x t)

  pub step-came : Came x (length part - at) → Came now 0
  step-came c =
      let size = length-drop at part in
      came-more x now (take (before_lf t) t) (length part - at) 0 c now-is (omega (arith, length-take-le (before_lf t) t (before-le t), before-le t))

  pub step-all : length part ≤ a.at → Takes x t at now a.at
  step-all all =
      let o = h.offset in
      let size = length-drop at part in
      let n : a.at - at ≡ before_lf t = omega arith in
      record { further = omega arith; within = omega (arith, before-le t); leaves = rw n now-is }

  pub step-ended : (ledger : List ℕ) (size number : ℕ) (next : Held) → a.at < length part → size ≡ ended_size a.held
      → ledger ≡ held_ledger x.ledger a.held.number size kept → number ≡ number_behind a.held.number → next ≡ none number
      → Takes x t at (progress ledger next kept) (a.at + 1)
  step-ended ledger size number next some s e f g =
      let o = h.offset in
      let long = length-drop at part in
      let n : a.at + 1 - at ≡ suc (before_lf t) = omega arith in
      let made : progress ledger next kept ≡ ended now = rw (g, f, e, s) refl in
      record {
        further = omega arith;
        within = omega arith;
        leaves = rw n (made ∙ ap (λ (y : State). ended (record { ledger = x.ledger; state = y })) h.state ∙ sym (fed-lf x t (omega arith)));
      }

-- ---- all of a part
module _ (x y : Progress) (part : List ℕ) (at : ℕ) (inside : at ≤ length part) (v : y ≡ fed_all x (take at part)) where
  pub loop_came : Came x (length part) → Came y (length part - at)
  loop_came c = came-more x y (take at part) (length part) (length part - at) c v (omega (arith, length-take-le at part inside))

  pub loop_next : (z : Progress) (next : ℕ) → Takes y (drop at part) at z next → (next ≤ length part) × (z ≡ fed_all x (take next part))
  loop_next z next s =
      let w = s.within in
      let f = s.further in
      let d = length-drop at part in
      let n : at + (next - at) ≡ next = omega arith in
      let parts : take at part ++ take (next - at) (drop at part) ≡ take next part = sym (take-add at (next - at) part) ∙ ap (λ (k : ℕ). take k part) n in (
        omega arith,
        s.leaves ∙ ap (λ (u : Progress). fed_all u (take (next - at) (drop at part))) v ∙ sym (fed-append x (take at part) (take (next - at) (drop at part)))
            ∙ ap (fed_all x) parts,
      )

  pub loop_all : length part ≤ at → y ≡ fed_all x part
  loop_all h = v ∙ ap (fed_all x) (take_all at part h)

-- ---- reads
pub came-first : (more : ℕ) → more + 2 < 2 ^ 64 → Came start more
unfolding fed_all
came-first more h = record { bytes = []; leave = refl; few = omega arith }

pub came-less : (x : Progress) (m k : ℕ) → Came x m → k ≤ m → Came x k
came-less x m k c h = let few = c.few in record { bytes = c.bytes; leave = c.leave; few = omega arith }

module _ (x : Progress) (space : List ℕ) (n turns : ℕ) (came : Came x (65536 * turns)) (some : 0 < turns) (size : length space ≡ 65536) where
  pub came-part : Came x (length (take n space))
  came-part = came-less x (65536 * turns) (length (take n space)) came (omega (arith, length-take n space))

  pub came-next : (y : Progress) (left : ℕ) → left < turns → y ≡ fed_all x (take n space) → Came y (65536 * left)
  came-next y left fewer e = came-more x y (take n space) (65536 * turns) (65536 * left) came e (omega (arith, length-take n space))

-- ---- the end of the input
pub came-sums : (x : Progress) (ws text : List ℕ) → Came x 0 → ws ≡ last_ledger x → text ≡ summary ws → Sums x text
came-sums x ws text c e f =
    let few = c.few in
    record {
      bytes = c.bytes;
      leave = c.leave;
      due = rw c.leave (cuts_told c.bytes (omega arith));
      says = f ∙ ap summary (e ∙ ap last_ledger c.leave ∙ cuts_entered c.bytes (omega arith));
    }
