-- "For every way of cutting the input": what is known behind parts is what is known after the lines that they finish, and what is answered at the end
-- is what the definition says of the whole.
--     Reached, part-reached     a part behind a piece that is held
--     cuts_known                all parts, and then the end: the lines of the whole
--     cuts_checked              so the answer is the whole's
-- Assumes nothing.
use Prim.Native.Nat.{ℕ, suc, ◌+◌, ◌-◌, ◌^◌, ◌≤◌, ◌<◌}
use mathlib.Core.Path.{◌≡◌, refl, sym, ap, ◌∙◌}
use mathlib.Core.Bool.{Bool, true, false, cond}
use mathlib.Core.List.{List, [], ◌∷◌, ◌++◌}
use native.Mathlib.Omega.{arith}
use borrow.Author.Tests.{lt-ltb, ltb-true, ltb-false, eq-eqb, ne_eqb, eqb-true}
use lib.Dec.{eqb, ltb}
use lib.ListN.{length, take, length-append, length-replicate}
use lib.Seq.{take_all, take-length, length-take-le}
use Rattle.carry.specs.Held.{most_kept, State, absorbed, ended_size}
use Rattle.carry.specs.Pieces.{Stretch, joined, stretches_of, ended_line, last_stretch, passed, left}
use Rattle.carry.specs.Whole.{ends, behind_lf}
use Rattle.carry.proofs.Laws.First.{first-split}
use Rattle.carry.proofs.Laws.Held.{ends_cr, ended-take, Holds, holds-begun, holds-absorbed, holds-none}
use Rattle.carry.proofs.Laws.Left.{holds-free, holds-rest}
use Rattle.carry.proofs.Laws.Pieces.{passed-split, left_split, left-length, stretches-fed}
use Rattle.carry.proofs.Laws.Whole.{passed-free, passed_none}
use Rattle.tally.specs.Names.{is_master}
use Rattle.tally.proofs.Laws.Front.{front-counted, front-master}
use Rattle.walker.specs.Lines.{before_lf, number_behind}
use Rattle.audit.specs.Audit.{checked}
use Rattle.audit.specs.Cuts.{seen_held, ended_watch, last_watch, Progress, freely, behind_part, behind_parts, start}
use Rattle.audit.specs.Watch.{with_master, with_line, seen, watched, fresh, judged_by}
use Rattle.audit.specs.declared.watch.Masters.{Masters}
use Rattle.audit.specs.declared.watch.Masters.TheVariants.{Missing, Unread, Numbers, Several}
use Rattle.audit.specs.declared.watch.Watch.{Watch}
use Rattle.audit.proofs.Laws.Watch.{checked-watched}

-- ---- a line over 1,024 bytes is seen by its front
module _ (w : Watch) (k : ℕ) (l : List ℕ) (size taken : ℕ) (six : 6 ≤ k) (long : 1024 < size) where
  front-with : (m : Masters) (at : ℕ) → with_master m (take k l) size at ≡ with_master m l size at
  front-with Missing at = rw (lt-ltb 1024 size long) refl
  front-with (Unread s n) at = refl
  front-with (Numbers m) at = refl
  front-with (Several s n) at = refl

  front-line : with_line w.masters (take k l) size w.at ≡ with_line w.masters l size w.at
  front-line = rw (front-master k l six) (ap (λ (m : Masters). cond (is_master l) m w.masters) (front-with w.masters w.at))

  seen_front : seen w (take k l) size taken ≡ seen w l size taken
  unfolding seen
  seen_front = rw (front-counted k l six w.counted, front-line) refl

-- ---- the line that is held
module _ (w : Watch) (q : List ℕ) (n : ℕ) (s : State) (h : Holds q n s) where
  held-seen : (size taken : ℕ) → size ≤ length q → seen_held w s.kept size taken ≡ seen w (take size q) size taken
  unfolding seen_held
  held-seen size taken l = go (ltb most_kept size) refl
    where
      go : (b : Bool) → ltb most_kept size ≡ b → seen w (cond b s.kept (take size s.kept)) size taken ≡ seen w (take size q) size taken
      go true e =
          let long = ltb-true most_kept size e in
          let space = h.space in
          let front : s.kept ≡ take most_kept q = sym (take_all most_kept s.kept (omega arith)) ∙ h.bytes most_kept (omega arith) (omega arith) in
          ap (λ (t : List ℕ). seen w t size taken) front ∙ seen_front w most_kept q size taken (omega arith) long
          ∙ sym (seen_front w size q size taken (omega arith) long)
      go false e = rw (h.bytes size l (ltb-false most_kept size e)) refl

  ended-seen : length q + 1 < 2 ^ 64 → ended_watch w s ≡ seen w (ended_line q) (length (ended_line q)) (suc (length q))
  ended-seen few =
      let count = h.count in
      let taken : number_behind s.held.total ≡ suc (length q) = omega arith in
      rw (taken, size, ended-take q, length-take-le most q (le (ends_cr q))) (held-seen most (suc (length q)) (le (ends_cr q)))
    where
      most : ℕ
      most = cond (ends_cr q) (length q - 1) (length q)

      le : (c : Bool) → cond c (length q - 1) (length q) ≤ length q
      le true = omega arith
      le false = omega arith

      total : s.held.total ≡ length q
      total = let count = h.count in omega arith

      cut : (z c : Bool) → eqb (length q) 0 ≡ z → cond z 0 (cond c (length q - 1) (length q)) ≡ cond c (length q - 1) (length q)
      cut true true e = let none = eqb-true (length q) 0 e in omega arith
      cut true false e = let none = eqb-true (length q) 0 e in omega arith
      cut false c e = refl

      size : ended_size s.held ≡ most
      size = rw (total, h.cr) (cut (eqb (length q) 0) (ends_cr q) refl)

last-seen : (w : Watch) (p : List ℕ) (n : ℕ) (s : State) → Holds p n s → length p < 2 ^ 64 → last_watch w s ≡ watched w (last_stretch p)
unfolding last_watch watched
last-seen w [] n s h few = let count = h.count in rw (eq-eqb s.held.total 0 (omega arith)) refl
last-seen w (b ∷ t) n s h few =
    let count = h.count in
    let total : s.held.total ≡ suc (length t) = omega arith in
    let some : suc (length t) ≡ 0 → ⊥ = λ z. omega arith in
    rw (total, ne_eqb (suc (length t)) 0 some) (held-seen w (b ∷ t) n s h (suc (length t)) (suc (length t)) (omega arith) ∙ rw (take-length t) refl)

-- ---- a part
watched-append : (w : Watch) (a b : List Stretch) → watched w (a ++ b) ≡ watched (watched w a) b
unfolding watched
watched-append w [] b = refl
watched-append w (s ∷ a) b = watched-append (seen w s.text (length s.text) s.taken) a b

pub record Reached (p : List ℕ) (n : ℕ) (w : Watch) (t : List ℕ) (x : Progress) : Type 0 where
  pub watch : x.watch ≡ watched w (passed p t)
  pub holds : Holds (left p t) n x.state

free-reached : (number n : ℕ) (w : Watch) (kept t : List ℕ) → number ≡ n → length kept ≡ most_kept → Reached [] n w t (freely number w kept t)
free-reached number n w kept t e space = rw e (record { watch = ap (watched w) (sym (passed-free t)); holds = holds-free n kept t space })

module _ (p : List ℕ) (n : ℕ) (x : Progress) (t : List ℕ) (h : Holds p n x.state) (few : length p + length t < 2 ^ 64) where
  none-reached : x.state.held.total ≡ 0 → Reached p n x.watch t (freely x.state.held.number x.watch x.state.kept t)
  none-reached z = rw (holds-none p n x.state h z) (free-reached x.state.held.number n x.watch x.state.kept t h.number h.space)

  rest-reached : ends t ≡ false → Reached p n x.watch t (record { watch = x.watch; state = absorbed x.state t })
  unfolding watched
  rest-reached e = record { watch = rw (passed_none p t e) refl; holds = holds-rest p n x.state t h e }

  ended-reached : ends t ≡ true
      → Reached p n x.watch t
      (freely (absorbed x.state t).held.number (ended_watch x.watch (absorbed x.state t)) (absorbed x.state t).kept (behind_lf t))
  unfolding watched
  ended-reached e =
      let q = p ++ take (before_lf t) t in
      let s = absorbed x.state t in
      let held = holds-absorbed p n x.state t h in
      let split = first-split p t e in
      let inside = ltb-true (before_lf t) (length t) e in
      let size : length q ≡ length p + before_lf t = length-append p (take (before_lf t) t) ∙ ap (λ (k : ℕ). length p + k) (length-take-le (before_lf t) t (omega arith)) in
      let line = ended-seen x.watch q n s held (omega arith) in
      let rest = free-reached s.held.number n (ended_watch x.watch s) s.kept (behind_lf t) held.number held.space in
      record { watch = rest.watch ∙ rw (line, split.lines) refl; holds = rw split.rest rest.holds }

  pub part-reached : Reached p n x.watch t (behind_part x t)
  unfolding behind_part
  part-reached = go (eqb x.state.held.total 0) refl (ends t) refl
    where
      go : (z : Bool) → eqb x.state.held.total 0 ≡ z → (c : Bool) → ends t ≡ c
          → Reached p n x.watch t
          (cond z (freely x.state.held.number x.watch x.state.kept t)
          (cond c (freely (absorbed x.state t).held.number (ended_watch x.watch (absorbed x.state t)) (absorbed x.state t).kept (behind_lf t))
          (record { watch = x.watch; state = absorbed x.state t })))
      go true z c e = none-reached (eqb-true x.state.held.total 0 z)
      go false z true e = ended-reached e
      go false z false e = rest-reached e

-- ---- all parts
parts-reached : (p : List ℕ) (n : ℕ) (x : Progress) (ps : List (List ℕ)) → Holds p n x.state → length p + length (joined ps) < 2 ^ 64
    → Reached p n x.watch (joined ps) (behind_parts x ps)
unfolding behind_parts joined passed left watched
parts-reached p n x [] h few = record { watch = refl; holds = h }
parts-reached p n x (a ∷ ps) h few =
    let all = length-append a (joined ps) in
    let first = part-reached p n x a h (omega arith) in
    let rest = parts-reached (left p a) n (behind_part x a) ps first.holds (omega (arith, left-length p a)) in
    record {
      watch = rest.watch ∙ rw (first.watch, passed-split p a (joined ps)) (sym (watched-append x.watch (passed p a) (passed (left p a) (joined ps))));
      holds = rw (left_split p a (joined ps)) rest.holds;
    }

-- from the first line on
module _ (ps : List (List ℕ)) (few : length (joined ps) < 2 ^ 64) where
  reached : Reached [] 1 fresh (joined ps) (behind_parts start ps)
  reached = parts-reached [] 1 start ps (holds-begun 1 start.state.kept (length-replicate {A = ℕ} 1024 0)) (omega arith)

  pub cuts_known : last_watch (behind_parts start ps).watch (behind_parts start ps).state ≡ watched fresh (stretches_of (joined ps))
  cuts_known =
      let piece = left [] (joined ps) in
      last-seen (behind_parts start ps).watch piece 1 (behind_parts start ps).state reached.holds (omega (arith, left-length [] (joined ps)))
      ∙ ap (λ (w : Watch). watched w (last_stretch piece)) reached.watch
      ∙ sym (watched-append fresh (passed [] (joined ps)) (last_stretch piece))
      ∙ ap (watched fresh) (sym (stretches-fed [] (joined ps) tt))

  pub cuts_checked : judged_by (last_watch (behind_parts start ps).watch (behind_parts start ps).state) ≡ checked (joined ps)
  cuts_checked = ap judged_by cuts_known ∙ checked-watched (joined ps) few
