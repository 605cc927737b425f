-- "For every way of cutting the input .. the listings are those of the walker on the whole."
--     Given, part-lines     behind a piece that is held, a part puts the reports of the lines that it finishes, and the piece that it leaves is held
--     cuts_finished         what is put for parts are the reports of all lines that they finish, so that none of them waits
--     cuts_lines            and with what is put at the end of the input, of the lines of the whole, numbered from 1
-- Assumes nothing.
use Prim.Native.Nat.{ℕ, suc, ◌+◌}
use mathlib.Core.Path.{◌≡◌, refl, sym, ap, ◌∙◌}
use mathlib.Core.Bool.{Bool, true, false, cond}
use mathlib.Core.List.{List, [], ◌∷◌, ◌++◌, append_assoc}
use native.Mathlib.Omega.{arith}
use borrow.Author.Tests.{eqb-true}
use lib.ListN.{length, take, length-append}
use lib.Dec.{eqb}
use Rattle.carry.specs.Held.{most_kept, State, begun, absorbed}
use Rattle.carry.specs.Pieces.{joined, last_line, passed, finished, left}
use Rattle.carry.specs.Whole.{ends, behind_lf, lines_in}
use Rattle.carry.proofs.Laws.First.{first-split}
use Rattle.carry.proofs.Laws.Held.{Holds, holds-begun, holds-absorbed, holds-none}
use Rattle.carry.proofs.Laws.Left.{holds-free, holds-rest}
use Rattle.carry.proofs.Laws.Pieces.{finished-split, left_split, lines-fed}
use Rattle.carry.proofs.Laws.Whole.{finished-free, finished-none}
use Rattle.parts.specs.Feed.{free_text, free_state, part_text, part_state, parts_text, parts_state}
use Rattle.parts.specs.Held.{ended_text, last_text}
use Rattle.parts.proofs.Laws.Held.{holds-ended, holds-last}
use Rattle.report.specs.Fill.{reports_from}
use Rattle.report.specs.Report.{report}
use Rattle.walker.specs.Lines.{before_lf, lines_of}

-- ---- one part
pub record Given (p : List ℕ) (n : ℕ) (t text : List ℕ) (state : State) : Type 0 where
  pub prints : text ≡ reports_from n (finished p t)
  pub holds : Holds (left p t) (n + length (finished p t)) state

-- nothing is held before it
free-lines : (k n : ℕ) (kept t : List ℕ) → k ≡ n → length kept ≡ most_kept → Holds (left [] t) (n + length (finished [] t)) (free_state k kept t)
free-lines k n kept t e h = rw (e, finished-free t) (holds-free (n + length (lines_in t)) kept t h)

free-text : (k n : ℕ) (t : List ℕ) → k ≡ n → free_text k t ≡ reports_from n (finished [] t)
free-text k n t e = rw (e, finished-free t) refl

module _ (p : List ℕ) (n : ℕ) (s : State) (t : List ℕ) (h : Holds p n s) where
  at-lf : Holds (p ++ take (before_lf t) t) n (absorbed s t)
  at-lf = holds-absorbed p n s t h

  given-none : ends t ≡ false → Given p n t [] (absorbed s t)
  unfolding reports_from
  given-none e =
      let same : n + 0 ≡ n = omega arith in
      record { prints = rw (finished-none p t e) refl; holds = rw (finished-none p t e, same) (holds-rest p n s t h e) }

  given-free : s.held.total ≡ 0 → Given p n t (free_text s.held.number t) (free_state s.held.number s.kept t)
  given-free z =
      let none = holds-none p n s h z in
      rw none (record { prints = free-text s.held.number n t h.number; holds = free-lines s.held.number n s.kept t h.number h.space })

  given-ended : ends t ≡ true
      → Given p n t (ended_text (absorbed s t) ++ free_text (suc s.held.number) (behind_lf t))
      (free_state (suc s.held.number) (absorbed s t).kept (behind_lf t))
  unfolding reports_from
  given-ended e =
      let split = first-split p t e in
      let line = holds-ended n (p ++ take (before_lf t) t) (absorbed s t) at-lf in
      let rest = free-text (suc s.held.number) (suc n) (behind_lf t) (ap suc h.number) in
      let held = free-lines (suc s.held.number) (suc n) (absorbed s t).kept (behind_lf t) (ap suc h.number) at-lf.space in
      let count : n + suc (length (finished [] (behind_lf t))) ≡ suc n + length (finished [] (behind_lf t)) = omega arith in
      record { prints = rw (line, rest, split.lines) refl; holds = rw (split.lines, split.rest, count) held }

  pub part-lines : Given p n t (part_text s t) (part_state s t)
  unfolding part_text part_state
  part-lines = go (ends t) refl (eqb s.held.total 0) refl
    where
      go : (c : Bool) → ends t ≡ c → (z : Bool) → eqb s.held.total 0 ≡ z
          → Given p n t
          (cond c (cond z (free_text s.held.number t) (ended_text (absorbed s t) ++ free_text (suc s.held.number) (behind_lf t))) [])
          (cond c (cond z (free_state s.held.number s.kept t) (free_state (suc s.held.number) (absorbed s t).kept (behind_lf t))) (absorbed s t))
      go false e z f = given-none e
      go true e true f = given-free (eqb-true s.held.total 0 f)
      go true e false f = given-ended e

-- ---- all parts
reports_append : (n : ℕ) (a b : List (List ℕ)) → reports_from n (a ++ b) ≡ reports_from n a ++ reports_from (n + length a) b
unfolding reports_from
reports_append n [] b = let e : n + 0 ≡ n = omega arith in rw e refl
reports_append n (l ∷ a) b =
    let e : n + suc (length a) ≡ suc n + length a = omega arith in
    rw (e, reports_append (suc n) a b) (sym (append_assoc (report n l) (reports_from (suc n) a) (reports_from (suc n + length a) b)))

parts_held : (p : List ℕ) (n : ℕ) (s : State) (ps : List (List ℕ)) → Holds p n s → Given p n (joined ps) (parts_text s ps) (parts_state s ps)
unfolding parts_text parts_state joined passed left reports_from
parts_held p n s [] h = let same : n + 0 ≡ n = omega arith in record { prints = refl; holds = rw same h }
parts_held p n s (a ∷ ps) h =
    let f = part-lines p n s a h in
    let ih = parts_held (left p a) (n + length (finished p a)) (part_state s a) ps f.holds in
    let both = finished-split p a (joined ps) in
    let count = length-append (finished p a) (finished (left p a) (joined ps)) in
    let sum : n + (length (finished p a) + length (finished (left p a) (joined ps))) ≡ n + length (finished p a) + length (finished (left p a) (joined ps)) = omega arith in
    record {
      prints = rw (f.prints, ih.prints, both) (sym (reports_append n (finished p a) (finished (left p a) (joined ps))));
      holds = rw (left_split p a (joined ps), both, count, sum) ih.holds;
    }

-- from the first line on
module _ (kept : List ℕ) (ps : List (List ℕ)) (space : length kept ≡ most_kept) where
  cuts_held : Given [] 1 (joined ps) (parts_text (begun 1 kept) ps) (parts_state (begun 1 kept) ps)
  cuts_held = parts_held [] 1 (begun 1 kept) ps (holds-begun 1 kept space)

  pub cuts_finished : parts_text (begun 1 kept) ps ≡ reports_from 1 (finished [] (joined ps))
  cuts_finished = cuts_held.prints

  pub cuts_lines : parts_text (begun 1 kept) ps ++ last_text (parts_state (begun 1 kept) ps) ≡ reports_from 1 (lines_of (joined ps))
  cuts_lines =
      let piece = left [] (joined ps) in
      let lines = finished [] (joined ps) in
      let last = holds-last (1 + length lines) piece (parts_state (begun 1 kept) ps) cuts_held.holds in
      rw (cuts_finished, last) (sym (reports_append 1 lines (last_line piece)) ∙ ap (reports_from 1) (sym (lines-fed [] (joined ps) tt)))
