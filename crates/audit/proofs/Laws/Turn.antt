-- The laws over the code's steps.
--     turn_end, turn-next, turn-moves           a turn of the loop over a file's lines
--     rest_watches                              the rest of a part before which nothing is held
--     part_free, part_held, part-ended          a part: nothing is held, no LF ends the line that is, or one does
--     last_empty, last_some                     the end of the input
--     watches_one                               the contract of `watch_part` leaves nothing free
-- Assumes nothing.
use Prim.Native.Nat.{ℕ, suc, ◌+◌, ◌-◌, ◌≤◌, ◌<◌}
use mathlib.Core.Path.{◌≡◌, refl, sym, ap, ◌∙◌}
use mathlib.Core.List.{List}
use Rattle.std.proofs.Common.{Some, None}
use native.Mathlib.Nat.{add-sub_cancel_left}
use native.Mathlib.Omega.{arith}
use borrow.Author.Tests.{lt-ltb, le-ltb, eq-eqb, ne_eqb}
use lib.ListN.{length, take, drop}
use lib.Seq.{drop-drop}
use Rattle.carry.specs.Held.{State, none, begun, absorbed, Absorbs, ended_size}
use Rattle.carry.specs.Pieces.{stretches_of}
use Rattle.carry.specs.Whole.{whole_length, whole_of}
use Rattle.carry.specs.declared.held.Held.{Held}
use Rattle.carry.specs.declared.keep.Absorbed.{Absorbed}
use Rattle.carry.proofs.Laws.Step.{stretch-end, stretch-next}
use Rattle.walker.specs.Lines.{before_lf, step_at, part_of, number_behind}
use Rattle.walker.specs.declared.Line.{Line}
use Rattle.walker.proofs.Laws.Lines.{step-served}
use Rattle.audit.specs.Cuts.{seen_held, last_watch, Progress, freely, behind_part, Watches}
use Rattle.audit.specs.Watch.{seen, watched}
use Rattle.audit.specs.declared.feed.Watched.{Watched}
use Rattle.audit.specs.declared.watch.Watch.{Watch}

-- ---- the loop over a file's lines
module _ (f : List ℕ) (at : ℕ) (w e : Watch) (v : watched w (stretches_of (drop at f)) ≡ e) where
  pub turn_end : step_at f at ≡ None → w ≡ e
  unfolding watched
  turn_end h = rw (stretch-end f at h) at v

  pub turn-next : (k : Line) (l : List ℕ) (u : Watch) → step_at f at ≡ Some k → l ≡ part_of f k.start k.end
      → u ≡ seen w l (length l) (k.next - at) → watched u (stretches_of (drop k.next f)) ≡ e
  unfolding watched
  turn-next k l u h p s = rw (s, p) (rw (stretch-next f at k h) at v)

pub turn-moves : (f : List ℕ) (at : ℕ) (k : Line) → step_at f at ≡ Some k → (at < k.next) × (k.next ≤ length f)
turn-moves f at k h = let s = step-served f at k h in (s.moves, s.within)

-- ---- the rest of a part
module _ (part : List ℕ) (at behind number : ℕ) (w seen : Watch) (before after : List ℕ) (fresh : Held) (a : Absorbed) where
  pub rest_watches : behind ≡ at + whole_length (drop at part) → seen ≡ watched w (stretches_of (take (behind - at) (drop at part))) → fresh ≡ none number
      → Absorbs (record { held = fresh; kept = before }) (drop behind part) behind after a
      → Watches (freely number w before (drop at part)) after (record { held = a.held; watch = seen })
  rest_watches is sees new h =
      let size : behind - at ≡ whole_length (drop at part) = rw is (add-sub_cancel_left at (whole_length (drop at part))) in
      let lines : seen ≡ watched w (stretches_of (whole_of (drop at part))) = rw size at sees in
      let rest : drop behind part ≡ drop (whole_length (drop at part)) (drop at part) =
      ap (λ (k : ℕ). drop k part) is ∙ sym (drop-drop (whole_length (drop at part)) at part) in
      let state : ◌≡◌ {A = State} (record { held = a.held; kept = after }) (absorbed (begun number before) (drop (whole_length (drop at part)) (drop at part))) =
      h.state ∙ rw (new, rest) refl in
      record { answer = rw (lines, ap (λ (x : State). x.held) state) refl; keeps = ap (λ (x : State). x.kept) state }

-- ---- a part
module _ (x : Progress) (t after : List ℕ) (r : Watched) where
  pub part_free : x.state.held.total ≡ 0 → Watches (freely x.state.held.number x.watch x.state.kept t) after r → Watches (behind_part x t) after r
  unfolding behind_part
  part_free z h = rw (eq-eqb x.state.held.total 0 z) h

module _ (x : Progress) (t kept : List ℕ) (a : Absorbed) (some : x.state.held.total ≡ 0 → ⊥) (h : Absorbs x.state t 0 kept a) where
  pub part_held : length t ≤ a.at → Watches (behind_part x t) kept (record { held = a.held; watch = x.watch })
  unfolding behind_part
  part_held l =
      let o = h.offset in
      let state = h.state in
      rw (ne_eqb x.state.held.total 0 some, le-ltb (before_lf t) (length t) (omega arith))
      (record { answer = rw (ap (λ (y : State). y.held) state) refl; keeps = ap (λ (y : State). y.kept) state })

  pub part-ended : (w : Watch) (size taken : ℕ) (after : List ℕ) (r : Watched) → a.at < length t → size ≡ ended_size a.held
      → taken ≡ number_behind a.held.total → w ≡ seen_held x.watch kept size taken
      → Watches (freely a.held.number w kept (drop (a.at + 1) t)) after r → Watches (behind_part x t) after r
  unfolding behind_part
  part-ended w size taken after r l e f g rest =
      let o = h.offset in
      let state = h.state in
      let held : a.held ≡ (absorbed x.state t).held = ap (λ (y : State). y.held) state in
      let bytes : kept ≡ (absorbed x.state t).kept = ap (λ (y : State). y.kept) state in
      let next : a.at + 1 ≡ suc (before_lf t) = omega arith in
      rw (ne_eqb x.state.held.total 0 some, lt-ltb (before_lf t) (length t) (omega arith)) (rw (g, e, f, held, bytes, next) at rest)

-- ---- the end of the input
module _ (w : Watch) (s : State) where
  pub last_empty : s.held.total ≡ 0 → w ≡ last_watch w s
  unfolding last_watch
  last_empty z = rw (eq-eqb s.held.total 0 z) refl

  pub last_some : (r : Watch) → (s.held.total ≡ 0 → ⊥) → r ≡ seen_held w s.kept s.held.total s.held.total → r ≡ last_watch w s
  unfolding last_watch
  last_some r z e = rw (ne_eqb s.held.total 0 z) e

module _ {x : Progress} {kept lent : List ℕ} {r s : Watched} where
  pub watches_one : Watches x kept r → Watches x lent s → (r ≡ s) × (kept ≡ lent)
  watches_one a b = (a.answer ∙ sym b.answer, a.keeps ∙ sym b.keeps)
