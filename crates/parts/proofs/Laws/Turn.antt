-- A turn, by the code's tests.
--     feeds-none                               there is no room for a report
--     feeds-held, feeds-rest, feeds-lines      a line is held; no LF is left; lines stand whole in the part
--     closed_all, closed-ended                 no LF ends the line that is held, or one does
--     whole-within, whole-feeds                lines that stand whole are put, and no offset past them is answered
--     last_none, last_empty, last_some         at the end of the input
-- Assumes nothing.
use Prim.Native.Nat.{ℕ, suc, ◌+◌, ◌-◌, ◌≤◌, ◌<◌}
use mathlib.Core.Path.{◌≡◌, refl, ap}
use mathlib.Core.Bool.{Bool, true, false, ◌&&◌}
use mathlib.Core.List.{List}
use native.Mathlib.Nat.{add-sub_cancel_left}
use native.Mathlib.Omega.{arith}
use borrow.Author.Tests.{lt-ltb, le-ltb, eq-eqb, ne_eqb}
use lib.ListN.{length, take, drop, length-take, length-drop}
use lib.Dec.{eqb}
use Rattle.carry.specs.Held.{State, none, absorbed, Absorbs, ended_size}
use Rattle.carry.specs.Whole.{ends, whole_length, whole_of}
use Rattle.carry.specs.declared.held.Held.{Held}
use Rattle.carry.specs.declared.keep.Absorbed.{Absorbed}
use Rattle.carry.proofs.Laws.Whole.{ends_some, ends-none}
use Rattle.listing.specs.Listing.{longest}
use Rattle.parts.specs.Feed.{Feeds, FeedsWhole, Behind, Puts, closed, whole, turn, ending}
use Rattle.parts.specs.Held.{ended_text, held_text, last_text}
use Rattle.parts.specs.declared.Fed.{Fed}
use Rattle.report.specs.Fill.{filling, Fills}
use Rattle.report.proofs.Laws.Fillings.{filling-at}
use Rattle.report.specs.declared.fill.Filled.{Filled}
use Rattle.walker.specs.Lines.{before_lf, number_behind}

-- ---- which turn it is
module _ (s : State) (t : List ℕ) (at : ℕ) (before : List ℕ) where
  pub feeds-none : length before < longest
      → Feeds (turn (length before) s t) at before before s.kept (record { held = s.held; at = at; n = 0 })
  unfolding turn
  feeds-none l =
      let e : at + 0 ≡ at = omega arith in
      rw (lt-ltb (length before) longest l) (record { answer = rw e refl; keeps = refl; bytes = refl })

  module _ (after kept : List ℕ) (r : Fed) (enough : longest ≤ length before) where
    pub feeds-held : (s.held.total ≡ 0 → ⊥) → Feeds (closed s t) at before after kept r → Feeds (turn (length before) s t) at before after kept r
    unfolding turn
    feeds-held n f = rw (le-ltb (length before) longest enough, ne_eqb s.held.total 0 n) f

    pub feeds-rest : whole_length t ≤ 0 → Feeds (closed s t) at before after kept r → Feeds (turn (length before) s t) at before after kept r
    unfolding turn
    feeds-rest z f = rw (le-ltb (length before) longest enough, no (eqb s.held.total 0)) f
      where
        no : (c : Bool) → c && ends t ≡ false
        no true = ends-none t z
        no false = refl

    pub feeds-lines : s.held.total ≡ 0 → 0 < whole_length t
        → Feeds (whole (filling (length before) (whole_of t) 0 s.held.number) s) at before after kept r
        → Feeds (turn (length before) s t) at before after kept r
    unfolding turn
    feeds-lines z w f = rw (le-ltb (length before) longest enough, eq-eqb s.held.total 0 z, ends_some t w) f

-- ---- the line that is held
module _ (part : List ℕ) (at : ℕ) (s : State) (before kept : List ℕ) (a : Absorbed) (h : Absorbs s (drop at part) at kept a) where
  held-is : a.held ≡ (absorbed s (drop at part)).held
  held-is = ap (λ (x : State). x.held) h.state

  kept-is : kept ≡ (absorbed s (drop at part)).kept
  kept-is = ap (λ (x : State). x.kept) h.state

  pub closed_all : length part ≤ a.at → Feeds (closed s (drop at part)) at before before kept (record { held = a.held; at = a.at; n = 0 })
  closed_all l =
      let o = h.offset in
      let no = le-ltb (before_lf (drop at part)) (length (drop at part)) (omega (arith, length-drop at part)) in
      rw no (record { answer = rw (held-is, o) refl; keeps = kept-is; bytes = refl })

  pub closed-ended : (after : List ℕ) (n size number : ℕ) (fresh : Held) → a.at < length part → size ≡ ended_size a.held
      → number ≡ number_behind a.held.number → fresh ≡ none number → Puts (held_text a.held.number size kept) before after n
      → Feeds (closed s (drop at part)) at before after kept (record { held = fresh; at = a.at + 1; n = n })
  closed-ended after n size number fresh l e f g p =
      let o = h.offset in
      let yes = lt-ltb (before_lf (drop at part)) (length (drop at part)) (omega (arith, length-drop at part)) in
      let next : a.at + 1 ≡ at + suc (before_lf (drop at part)) = omega arith in
      let text : held_text a.held.number size kept ≡ ended_text (absorbed s (drop at part)) = rw (e, held-is, kept-is) refl in
      let q = rw text at p in
      rw yes (record { answer = rw (g, f, held-is, next, q.count) refl; keeps = kept-is; bytes = q.bytes })

-- ---- lines that stand whole in the part
module _ (part : List ℕ) (at after_last number : ℕ) (before after : List ℕ) (filled : Filled) (b : Behind part at after_last)
    (f : Fills before (filling (length before) (take (after_last - at) (drop at part)) 0 number) after filled) where
  pub whole-within : at + filled.at ≤ length part
  whole-within =
      let is = b.is in
      let within = b.within in
      let offset = ap (λ (x : Filled). x.at) f.answer in
      let most = filling-at (length before) (take (after_last - at) (drop at part)) number in
      omega (arith, length-take (after_last - at) (drop at part), length-drop at part)

  pub whole-feeds : (fresh : Held) → fresh ≡ none filled.number
      → FeedsWhole part at number before after (record { held = fresh; at = at + filled.at; n = filled.n })
  whole-feeds fresh e kept =
      let size : after_last - at ≡ whole_length (drop at part) = rw b.is (add-sub_cancel_left at (whole_length (drop at part))) in
      let g = rw size at f in
      record { answer = rw (e, g.answer) refl; keeps = refl; bytes = g.bytes }

-- ---- at the end of the input
module _ (s : State) (before : List ℕ) where
  pub last_none : length before < longest → Puts (ending (length before) s) before before 0
  last_none l = rw (lt-ltb (length before) longest l) (record { count = refl; bytes = refl })

  pub last_empty : longest ≤ length before → s.held.total ≡ 0 → Puts (ending (length before) s) before before 0
  unfolding last_text
  last_empty enough z = rw (le-ltb (length before) longest enough, eq-eqb s.held.total 0 z) (record { count = refl; bytes = refl })

  pub last_some : (after : List ℕ) (r : ℕ) → longest ≤ length before → (s.held.total ≡ 0 → ⊥)
      → Puts (held_text s.held.number s.held.total s.kept) before after r → Puts (ending (length before) s) before after r
  unfolding last_text
  last_some after r enough z p = rw (le-ltb (length before) longest enough, ne_eqb s.held.total 0 z) p
