-- What is printed for a part, and a turn of the loop that prints it: what is left to print is what is put for the bytes that are left.
--     part-short                      what there is to print for a part can be counted
--     fed-front, fed-size, fed-within     what a turn put stands at the front of the lent bytes
--     Due, due-first                  so many bytes are printed, and the part from an offset on is due; all of it at first
--     due-part, due-next              a turn puts what stands there, and what is due behind it
--     due-further                     the offset goes on, and not past the end
--     due_all                         at the part's end all is printed, and what the part leaves is held
--     last-text, last_within          at the end of the input
--     came-first, came-next           part behind part
--     comes-next, few-next            a read's part behind those before it
-- Assumes nothing.
use Prim.Native.Nat.{ℕ, suc, ◌+◌, ◌*◌, ◌^◌, ◌≤◌, ◌<◌}
use mathlib.Core.Path.{◌≡◌, refl, sym, ap, ◌∙◌}
use mathlib.Core.Bool.{Bool, true, false, cond}
use mathlib.Core.List.{List, [], ◌∷◌, ◌++◌}
use native.Mathlib.Omega.{arith}
use lib.ListN.{length, take, drop, length-append, length-take, length-drop, drop_of_length-le}
use lib.Seq.{drop-drop, take_at, drop_at}
use lib.Dec.{eqb, ltb}
use Rattle.listing.specs.Listing.{longest}
use Rattle.carry.specs.Held.{State, most_kept, absorbed, ended_size}
use Rattle.carry.specs.Whole.{ends, behind_lf, lines_in}
use Rattle.parts.specs.Feed.{Turn, turn, Feeds, Puts, ending, free_text, part_text, part_state, parts_state}
use Rattle.parts.specs.Held.{ended_text, held_text, over_rows, last_text}
use Rattle.parts.specs.declared.Fed.{Fed}
use Rattle.parts.proofs.Laws.Put.{over-few}
use Rattle.parts.proofs.Laws.Turns.{Goes, turn-goes, turn-moves, turn-within, part-number, lines_in-le}
use Rattle.report.specs.Fill.{reports_from}
use Rattle.report.specs.Report.{report}
use Rattle.report.proofs.Laws.Fillings.{report-most}
use Rattle.stream.specs.Printed.{most, start, Came, Comes, Stands}
use Rattle.walker.specs.Lines.{before_lf}

-- ---- its length
reports_short : (number : ℕ) (ls : List (List ℕ)) → length (reports_from number ls) ≤ longest * length ls
unfolding reports_from
reports_short number [] = omega arith
reports_short number (l ∷ ls) =
    let first = report-most number l in
    let rest = reports_short (suc number) ls in
    rw (length-append _ (reports_from (suc number) ls)) (omega arith)

held-short : (number size : ℕ) (kept : List ℕ) → length (held_text number size kept) ≤ longest
unfolding held_text
held-short number size kept = go (ltb most_kept size)
  where
    go : (c : Bool) → length (cond c (over_rows number size) (report number (take size kept))) ≤ longest
    go true = over-few number size
    go false = report-most number (take size kept)

part-short : (s : State) (t : List ℕ) → length (part_text s t) ≤ longest * (1 + length t)
unfolding part_text
part-short s t = go (ends t) (eqb s.held.total 0)
  where
    go : (c z : Bool)
        → length (cond c (cond z (free_text s.held.number t) (ended_text (absorbed s t) ++ free_text (suc s.held.number) (behind_lf t))) [])
        ≤ longest * (1 + length t)
    go false z = omega arith
    go true true = omega (arith, reports_short s.held.number (lines_in t), lines_in-le t)
    go true false =
        let first = held-short (absorbed s t).held.number (ended_size (absorbed s t).held) (absorbed s t).kept in
        let rest = reports_short (suc s.held.number) (lines_in (behind_lf t)) in
        rw (length-append (ended_text (absorbed s t)) (free_text (suc s.held.number) (behind_lf t)))
        (omega (arith, first, rest, lines_in-le (behind_lf t), length-drop (suc (before_lf t)) t))

-- ---- what a turn put
module _ {x : Turn} {at : ℕ} {before after kept : List ℕ} {r : Fed} (f : Feeds x at before after kept r) where
  pub fed-front : take r.n after ≡ x.text
  fed-front = rw (f.answer, f.bytes) (take_at x.text _ _ refl)

  pub fed-size : r.n ≡ length (take r.n after)
  fed-size = ap (λ (y : Fed). y.n) f.answer ∙ ap length (sym fed-front)

  pub fed-within : length after ≡ length before → r.n ≤ length before
  fed-within e =
      let n = ap (λ (y : Fed). y.n) f.answer in
      let all = ap length f.bytes ∙ length-append x.text (drop (length x.text) before) in
      omega (arith, length-drop (length x.text) before)

-- ---- a turn
pub record Due (s₀ : State) (part : List ℕ) (s : State) (at done : ℕ) : Type 0 where
  pub rest : drop done (part_text s₀ part) ≡ part_text s (drop at part)
  pub within : done ≤ length (part_text s₀ part)
  pub leaves : part_state s (drop at part) ≡ part_state s₀ part
  pub inside : at ≤ length part

pub due-first : (s : State) (part : List ℕ) → Due s part s 0 0
due-first s part = record { rest = refl; within = omega arith; leaves = refl; inside = omega arith }

pub due_all : (s₀ : State) (part : List ℕ) (s : State) (at done : ℕ) → Due s₀ part s at done → length part ≤ at
    → (s ≡ part_state s₀ part) × (done ≡ length (part_text s₀ part))
unfolding part_text part_state absorbed before_lf
due_all s₀ part s at done h l =
    let none = drop_of_length-le part {i = at} l in
    let left : drop done (part_text s₀ part) ≡ [] = h.rest ∙ rw none refl in
    let size = length-drop done (part_text s₀ part) in
    let zero = ap length left in
    let within = h.within in
    (sym (rw none refl) ∙ h.leaves, omega arith)

module _ (s₀ : State) (part : List ℕ) (comes : Comes s₀ part) (s : State) (at done : ℕ) (h : Due s₀ part s at done) (before after kept : List ℕ) (r : Fed)
    (f : Feeds (turn (length before) s (drop at part)) at before after kept r) where
  abbrev x : Turn
  x = turn (length before) s (drop at part)

  numbers : (part_state s (drop at part)).held.number < 2 ^ 64
  numbers =
      let few = comes.few in
      let same = ap (λ (y : State). y.held.number) h.leaves in
      omega (arith, part-number s₀ part)

  goes : Goes s (drop at part) x
  goes = turn-goes (length before) s (drop at part) numbers

  begins : drop done (part_text s₀ part) ≡ x.text ++ part_text x.state (drop x.taken (drop at part))
  begins = h.rest ∙ goes.text

  reaches : done + length x.text ≤ length (part_text s₀ part)
  reaches =
      let within = h.within in
      let size = length-drop done (part_text s₀ part) in
      let all = ap length begins ∙ length-append x.text (part_text x.state (drop x.taken (drop at part))) in
      omega arith

  pub due-part : Stands (part_text s₀ part) done (take r.n after)
  due-part =
      let size = comes.size in
      rw (fed-front f) (record {
        within = reaches;
        bytes = rw begins (sym (take_at x.text _ _ refl));
        short = omega (arith, part-short s₀ part);
      })

  further : x.taken ≤ length (drop at part)
  further = turn-within (length before) s (drop at part) numbers

  pub due-next : (all : ℕ) → all ≡ done + length (take r.n after) → Due s₀ part (record { held = r.held; kept = kept }) r.at all
  due-next all e =
      let inside = h.inside in
      let rest = drop-drop x.taken at part in
      let state : ◌≡◌ {A = State} (record { held = r.held; kept = kept }) x.state = rw (f.answer, f.keeps) refl in
      let offset = ap (λ (y : Fed). y.at) f.answer in
      rw (e, fed-front f, state, offset) (record {
        rest =
            sym (drop-drop (length x.text) done (part_text s₀ part)) ∙ ap (drop (length x.text)) begins
            ∙ drop_at x.text (part_text x.state (drop x.taken (drop at part))) (length x.text) refl
            ∙ ap (part_text x.state) rest;
        within = reaches;
        leaves = ap (part_state x.state) (sym rest) ∙ sym goes.state ∙ h.leaves;
        inside = omega (arith, further, length-drop at part);
      })

  pub due-further : longest ≤ length before → at < length part → at < r.at
  due-further enough inside =
      let offset = ap (λ (y : Fed). y.at) f.answer in
      omega (arith, turn-moves (length before) s (drop at part) numbers enough (omega (arith, length-drop at part)))

-- ---- at the end of the input
module _ (s : State) (before after : List ℕ) (n : ℕ) (enough : length before ≡ longest) (p : Puts (ending (length before) s) before after n) where
  pub last-text : take n after ≡ last_text s
  last-text =
      let q : Puts (last_text s) before after n = rw enough at p in
      rw (q.count, q.bytes) (take_at (last_text s) _ _ refl)

  pub last_within : length after ≡ length before → n ≤ length before
  last_within e =
      let q : Puts (last_text s) before after n = rw enough at p in
      let count = q.count in
      let all = ap length q.bytes ∙ length-append (last_text s) (drop (length (last_text s)) before) in
      omega (arith, length-drop (length (last_text s)) before)

-- ---- part behind part
states_append : (s : State) (ps : List (List ℕ)) (a : List ℕ) → parts_state s (ps ++ a ∷ []) ≡ part_state (parts_state s ps) a
unfolding parts_state
states_append s [] a = refl
states_append s (b ∷ ps) a = states_append (part_state s b) ps a

pub came-first : Came start
unfolding parts_state
came-first = record { parts = []; leave = refl }

pub came-next : (s t : State) (part : List ℕ) → Came s → t ≡ part_state s part → Came t
came-next s t part c e =
    record { parts = c.parts ++ part ∷ []; leave = e ∙ ap (λ (y : State). part_state y part) c.leave ∙ sym (states_append start c.parts part) }

-- a read's part comes behind those before it, while there are numbers for its lines and for those of all reads that are left
module _ (s : State) (space : List ℕ) (n turns : ℕ) (came : Came s) (few : s.held.number + most * turns < 2 ^ 64) (some : 0 < turns)
    (size : length space ≡ most) where
  pub comes-next : Comes s (take n space)
  comes-next = record { came = came; size = omega (arith, length-take n space); few = omega (arith, length-take n space) }

  pub few-next : (t : State) (left : ℕ) → left < turns → t ≡ part_state s (take n space) → t.held.number + most * left < 2 ^ 64
  few-next t left fewer e =
      let number = ap (λ (y : State). y.held.number) e in
      omega (arith, part-number s (take n space), length-take n space)
