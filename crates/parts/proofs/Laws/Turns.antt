-- Turn after turn over a part.
--     free-text, free-state        with nothing held, what is put for bytes and what they leave
--     Goes, turn-goes              what a turn puts, and then what is put for the rest, is what is put for all; and what is held then
--     turn-moves, turn-within      with room for a report a turn takes a byte at least, and none past the end
--     lines_in-le, part-number     a part has no more lines than bytes
--     turns_all                    turns in rooms of any size from 4,096 bytes up, as many as the part has bytes, put all that there is to put for it
-- Assumes nothing.
use Prim.Native.Nat.{ℕ, suc, ◌+◌, ◌-◌, ◌^◌, ◌≤◌, ◌<◌}
use mathlib.Core.Path.{◌≡◌, refl, sym, ap, ◌∙◌}
use mathlib.Core.Bool.{Bool, true, false, cond, ◌&&◌}
use mathlib.Core.List.{List, [], ◌∷◌, ◌++◌}
use native.Mathlib.Omega.{arith}
use borrow.Author.Tests.{le-ltb, ltb-true, ltb-false}
use lib.ListN.{length, take, drop, length-take, length-drop, drop_of_length-le}
use lib.Seq.{drop-drop, drop_at, take-add, length-take-le}
use lib.Dec.{eqb, ltb}
use Rattle.carry.specs.Held.{State, begun, keep, absorbed}
use Rattle.carry.specs.Whole.{ends, behind_lf, whole_length, whole_of, lines_in}
use Rattle.carry.proofs.Laws.Whole.{whole_le, whole-zero, whole_drop, whole-ends}
use Rattle.listing.specs.Listing.{longest}
use Rattle.parts.specs.Feed.{free_text, free_state, part_text, part_state, Turn, whole, turn, turns_text, turns_state}
use Rattle.parts.specs.Held.{ended_text}
use Rattle.report.specs.Fill.{Filling, filling, reports_from, Enough}
use Rattle.report.proofs.Laws.Fillings.{filling-left, filling-fewer, filling-at}
use Rattle.walker.specs.Lines.{before_lf, lines_of, number_behind}
use Rattle.walker.proofs.Laws.Lines.{lines-le}

-- ---- with nothing held
module _ (n : ℕ) (kept t : List ℕ) where
  none-text : whole_length t ≡ 0 → [] ≡ free_text n t
  unfolding lines_of reports_from
  none-text z = rw z refl

  none-state : whole_length t ≡ 0 → absorbed (begun n kept) t ≡ free_state n kept t
  unfolding lines_of
  none-state z = let same : n + 0 ≡ n = omega arith in rw z (rw same refl)

  pub free-text : part_text (begun n kept) t ≡ free_text n t
  unfolding part_text
  free-text = go (ends t) refl
    where
      go : (c : Bool) → ends t ≡ c → cond c (free_text n t) [] ≡ free_text n t
      go true e = refl
      go false e = none-text (whole-zero t e)

  pub free-state : part_state (begun n kept) t ≡ free_state n kept t
  unfolding part_state
  free-state = go (ends t) refl
    where
      go : (c : Bool) → ends t ≡ c → cond c (free_state n kept t) (absorbed (begun n kept) t) ≡ free_state n kept t
      go true e = refl
      go false e = none-state (whole-zero t e)

-- ---- what is held keeps its line's number
absorbed-number : (s : State) (t : List ℕ) → (absorbed s t).held.number ≡ s.held.number
unfolding absorbed keep
absorbed-number s [] = refl
absorbed-number s (b ∷ t) = go (eqb b 10) (absorbed-number (keep s b) t)
  where
    go : (c : Bool) → (absorbed (keep s b) t).held.number ≡ s.held.number → (cond c s (absorbed (keep s b) t)).held.number ≡ s.held.number
    go true h = refl
    go false h = h

free-number : (n : ℕ) (kept t : List ℕ) → (free_state n kept t).held.number ≡ n + length (lines_in t)
free-number n kept t = absorbed-number (begun (n + length (lines_in t)) kept) (drop (whole_length t) t)

before-le : (t : List ℕ) → before_lf t ≤ length t
unfolding before_lf
before-le [] = omega arith
before-le (b ∷ t) = go (eqb b 10) (before-le t)
  where
    go : (c : Bool) → before_lf t ≤ length t → cond c 0 (suc (before_lf t)) ≤ suc (length t)
    go true h = omega arith
    go false h = omega arith

pub lines_in-le : (t : List ℕ) → length (lines_in t) ≤ length t
lines_in-le t = omega (arith, lines-le (whole_of t), length-take (whole_length t) t)

pub part-number : (s : State) (t : List ℕ) → (part_state s t).held.number ≤ s.held.number + length t
unfolding part_state
part-number s t = go (ends t) refl (eqb s.held.total 0)
  where
    go : (c : Bool) → ends t ≡ c → (z : Bool)
        → (cond c (cond z (free_state s.held.number s.kept t) (free_state (suc s.held.number) (absorbed s t).kept (behind_lf t))) (absorbed s t)).held.number
        ≤ s.held.number + length t
    go false e z = omega (arith, absorbed-number s t)
    go true e true = omega (arith, free-number s.held.number s.kept t, lines_in-le t)
    go true e false =
        let l = ltb-true (before_lf t) (length t) e in
        omega (arith, free-number (suc s.held.number) (absorbed s t).kept (behind_lf t), lines_in-le (behind_lf t), length-drop (suc (before_lf t)) t)

-- ---- a turn
pub record Goes (s : State) (t : List ℕ) (x : Turn) : Type 0 where
  pub text : part_text s t ≡ x.text ++ part_text x.state (drop x.taken t)
  pub state : part_state s t ≡ part_state x.state (drop x.taken t)

-- where there is no LF all is held
goes-rest : (s : State) (t : List ℕ) → ends t ≡ false → Goes s t (record { text = []; state = absorbed s t; taken = before_lf t })
unfolding part_text part_state absorbed before_lf
goes-rest s t e =
    let none = drop_of_length-le t {i = before_lf t} (ltb-false (before_lf t) (length t) e) in
    record { text = rw (none, e) refl; state = rw (none, e) refl }

-- an LF ends the line that is held
goes-ended : (s : State) (t : List ℕ) → ends t ≡ true → eqb s.held.total 0 ≡ false → (part_state s t).held.number < 2 ^ 64
    → Goes s t (record { text = ended_text (absorbed s t); state = begun (number_behind (absorbed s t).held.number) (absorbed s t).kept; taken = suc (before_lf t) })
unfolding part_text part_state
goes-ended s t e z b =
    let n = s.held.number in
    let kept = (absorbed s t).kept in
    let few : suc n + length (lines_in (behind_lf t)) < 2 ^ 64 = rw (free-number (suc n) kept (behind_lf t)) at (rw (e, z) at b) in
    let next : number_behind (absorbed s t).held.number ≡ suc n = omega (arith, absorbed-number s t) in
    record {
      text = rw (e, z) (ap (λ (u : List ℕ). ended_text (absorbed s t) ++ u) (sym (free-text (suc n) kept (behind_lf t)) ∙ ap (λ (k : ℕ). part_text (begun k kept) (behind_lf t)) (sym next)));
      state = rw (e, z) (sym (free-state (suc n) kept (behind_lf t)) ∙ ap (λ (k : ℕ). part_state (begun k kept) (behind_lf t)) (sym next));
    }

-- lines that stand whole: behind some of them, the others
module _ (t : List ℕ) (k : ℕ) (l : k ≤ whole_length t) where
  rest_lines : drop k (whole_of t) ≡ take (whole_length (drop k t)) (drop k t)
  rest_lines =
      let w = whole_length t in
      let sum : k + (w - k) ≡ w = omega arith in
      let all : take w t ≡ take k t ++ take (w - k) (drop k t) = ap (λ (m : ℕ). take m t) (sym sum) ∙ take-add k (w - k) t in
      let many = length-take-le k t (omega (arith, whole_le t)) in
      rw (all, whole_drop k t l) (drop_at (take k t) (take (w - k) (drop k t)) k many)

  rest-rest : drop (whole_length (drop k t)) (drop k t) ≡ drop (whole_length t) t
  rest-rest =
      let sum : k + (whole_length t - k) ≡ whole_length t = omega arith in
      rw (whole_drop k t l) (drop-drop (whole_length t - k) k t ∙ ap (λ (m : ℕ). drop m t) sum)

module _ (room n : ℕ) (t : List ℕ) where
  abbrev f : Filling
  f = filling room (whole_of t) 0 n

  offset : f.at ≤ whole_length t
  offset = omega (arith, filling-at room (whole_of t) n, length-take (whole_length t) t)

  goes-free : (kept : List ℕ) → n + length (lines_in t) < 2 ^ 64
      → (free_text n t ≡ f.text ++ free_text f.number (drop f.at t)) × (free_state n kept t ≡ free_state f.number kept (drop f.at t))
  goes-free kept few =
      let left = filling-left room (whole_of t) 0 n few in
      let same = rest_lines t f.at offset in
      let sum = rw same at left.sum in (
        rw same at left.text,
        rw (sum, rest-rest t f.at offset) refl,
      )

  free-moves : longest ≤ room → 0 < whole_length t → n + length (lines_in t) < 2 ^ 64 → 0 < f.at
  free-moves enough some few = go (ltb 0 f.at) refl
    where
      go : (c : Bool) → ltb 0 f.at ≡ c → 0 < f.at
      go true e = ltb-true 0 f.at e
      go false e =
          let z : f.at ≡ 0 = let h = ltb-false 0 f.at e in omega arith in
          let size = length-take-le (whole_length t) t (whole_le t) in
          let fewer = rw z at (filling-fewer room (whole_of t) 0 n enough (omega arith) few) in
          absurd (omega arith)

goes-whole : (room : ℕ) (s : State) (t : List ℕ) → ends t ≡ true → eqb s.held.total 0 ≡ true → (part_state s t).held.number < 2 ^ 64
    → Goes s t (whole (filling room (whole_of t) 0 s.held.number) s)
unfolding part_text part_state
goes-whole room s t e z b =
    let n = s.held.number in
    let few : n + length (lines_in t) < 2 ^ 64 = rw (free-number n s.kept t) at (rw (e, z) at b) in
    let g = goes-free room n t s.kept few in
    let x = f room n t in
    record {
      text = rw (e, z) (g.0 ∙ ap (λ (u : List ℕ). x.text ++ u) (sym (free-text x.number s.kept (drop x.at t))));
      state = rw (e, z) (g.1 ∙ sym (free-state x.number s.kept (drop x.at t)));
    }

module _ (room : ℕ) (s : State) (t : List ℕ) (b : (part_state s t).held.number < 2 ^ 64) where
  pub turn-goes : Goes s t (turn room s t)
  unfolding turn
  turn-goes = go (ltb room longest) (eqb s.held.total 0) refl (ends t) refl
    where
      go : (c z : Bool) → eqb s.held.total 0 ≡ z → (d : Bool) → ends t ≡ d
          → Goes s t (cond c (record { text = []; state = s; taken = 0 })
          (cond (z && d) (whole (filling room (whole_of t) 0 s.held.number) s)
          (cond d (record { text = ended_text (absorbed s t); state = begun (number_behind (absorbed s t).held.number) (absorbed s t).kept; taken = suc (before_lf t) })
          (record { text = []; state = absorbed s t; taken = before_lf t }))))
      go true z f d e = record { text = refl; state = refl }
      go false true f true e = goes-whole room s t e f b
      go false false f true e = goes-ended s t e f b
      go false true f false e = goes-rest s t e
      go false false f false e = goes-rest s t e

  pub turn-within : (turn room s t).taken ≤ length t
  unfolding turn
  turn-within = go (ltb room longest) (eqb s.held.total 0) (ends t) refl
    where
      go : (c z d : Bool) → ends t ≡ d
          → (cond c (record { text = []; state = s; taken = 0 })
          (cond (z && d) (whole (filling room (whole_of t) 0 s.held.number) s)
          (cond d (record { text = ended_text (absorbed s t); state = begun (number_behind (absorbed s t).held.number) (absorbed s t).kept; taken = suc (before_lf t) })
          (record { text = []; state = absorbed s t; taken = before_lf t })))).taken ≤ length t
      go true z d e = omega arith
      go false true true e = omega (arith, offset room s.held.number t, whole_le t)
      go false false true e = let l = ltb-true (before_lf t) (length t) e in omega arith
      go false true false e = before-le t
      go false false false e = before-le t

  pub turn-moves : longest ≤ room → 0 < length t → 0 < (turn room s t).taken
  unfolding turn part_state
  turn-moves enough some = rw (le-ltb room longest enough) (go (eqb s.held.total 0) refl (ends t) refl)
    where
      go : (z : Bool) → eqb s.held.total 0 ≡ z → (d : Bool) → ends t ≡ d
          → 0 < (cond (z && d) (whole (filling room (whole_of t) 0 s.held.number) s)
          (cond d (record { text = ended_text (absorbed s t); state = begun (number_behind (absorbed s t).held.number) (absorbed s t).kept; taken = suc (before_lf t) })
          (record { text = []; state = absorbed s t; taken = before_lf t }))).taken
      go true f true e =
          let few : s.held.number + length (lines_in t) < 2 ^ 64 = rw (free-number s.held.number s.kept t) at (rw (e, f) at b) in
          free-moves room s.held.number t enough (ltb-true 0 (whole_length t) (whole-ends t ∙ e)) few
      go false f true e = omega arith
      go true f false e = let l = ltb-false (before_lf t) (length t) e in omega arith
      go false f false e = let l = ltb-false (before_lf t) (length t) e in omega arith

-- ---- turn after turn
part_none : (s : State) (t : List ℕ) → length t ≤ 0 → (part_text s t ≡ []) × (part_state s t ≡ s)
unfolding part_text part_state absorbed before_lf
part_none s [] l = (refl, refl)
part_none s (b ∷ t) l = absurd (omega arith)

rest-fewer : (room : ℕ) (s : State) (t : List ℕ) (k : ℕ) → (part_state s t).held.number < 2 ^ 64 → longest ≤ room → length t ≤ suc k
    → length (drop (turn room s t).taken t) ≤ k
rest-fewer room s t k b enough l = go (ltb 0 (length t)) refl
  where
    go : (c : Bool) → ltb 0 (length t) ≡ c → length (drop (turn room s t).taken t) ≤ k
    go true e =
        let moves = turn-moves room s t b enough (ltb-true 0 (length t) e) in
        omega (arith, length-drop (turn room s t).taken t)
    go false e = let none = ltb-false 0 (length t) e in omega (arith, length-drop (turn room s t).taken t)

pub turns_all : (rooms : List ℕ) (s : State) (t : List ℕ) → Enough rooms → length t ≤ length rooms → (part_state s t).held.number < 2 ^ 64
    → (turns_text rooms s t ≡ part_text s t) × (turns_state rooms s t ≡ part_state s t)
unfolding turns_text turns_state
turns_all [] s t g l b = let none = part_none s t l in (sym none.0, sym none.1)
turns_all (room ∷ rooms) s t g l b =
    let goes = turn-goes room s t b in
    let fewer = rest-fewer room s t (length rooms) b g.0 l in
    let ih = turns_all rooms (turn room s t).state (drop (turn room s t).taken t) g.1 fewer (rw (← goes.state) b) in
    (rw ih.0 (sym goes.text), ih.1 ∙ sym goes.state)
