-- "Standard input to standard output line by line", whatever the cuts: what a turn writes stands at the front of what is due, by what was held before
-- it, and behind it stands what is due by what is held then. So the turns over the parts of an input, one behind the other, and the last line write all
-- that there is to write for the whole.
--     due            what is still to be written, by what is held, for the rest of the input
--     due-first      at the begin: all of it
--     due-turn       a turn over a part writes the front of it, whatever comes behind the part
--     due-last       at the end of the input the last line is all of it
-- Assumes nothing.
use Prim.Native.Nat.{ℕ, suc, ◌+◌, ◌-◌, ◌<◌, ◌≤◌}
use mathlib.Core.Path.{◌≡◌, refl, sym, ap, ◌∙◌}
use mathlib.Core.Bool.{Bool, true, false, cond, ◌||◌}
use mathlib.Core.List.{List, [], ◌∷◌, ◌++◌, append-nil, append_assoc}
use native.Mathlib.Omega.{arith}
use borrow.Author.Tests.{lt-ltb, ltb-true, eqb-true, eqb-false}
use lib.ListN.{length, take, drop, get_or, length-append, take-append-drop}
use lib.Seq.{sets-eq, length-take-le, append_snoc, take_at}
use lib.Dec.{eqb, ltb}
use Rattle.repair.specs.Rows.{over_row}
use Rattle.repair.specs.Repair.{line_for, rows_for}
use Rattle.walker.specs.Lines.{number_behind}
use Rattle.pdbmend.specs.Held.{State, state, none, text_of, stop, size_in, most_kept}
use Rattle.pdbmend.specs.Turn.{Said, said, both, last_as, line_in, ended_as, whole_said, mended_input, text_as, end_as, text_said, absorbed, turn}
use Rattle.pdbmend.proofs.Laws.Held.{stop_le}
use Rattle.pdbmend.proofs.Laws.Room.{chosen}
use Rattle.pdbmend.proofs.Laws.Turn.{size-le}

-- ---- a line that has too many bytes goes on as it is, to its LF
abbrev rest_said : ℕ → List ℕ → List ℕ → Said
rest_said number t [] = said t []
rest_said number t (b ∷ rest) =
    cond (eqb b 10) (both (said (t ++ 10 ∷ []) []) (whole_said (number_behind number) [] rest)) (rest_said number (t ++ b ∷ []) rest)

abbrev pub due : Bool → ℕ → List ℕ → List ℕ → Said
due false number text t = whole_said number text t
due true number text t = rest_said number text t

abbrev pub due_by : State → List ℕ → Said
due_by s t = due s.held.over s.held.number (text_of s) t

both_assoc : (a b c : Said) → both (both a b) c ≡ both a (both b c)
both_assoc a b c = rw (append_assoc a.out b.out c.out, append_assoc a.rows b.rows c.rows) refl

-- ---- bytes that are taken belong to the line
whole-taken : (number room : ℕ) (acc t u : List ℕ) → whole_said number acc (t ++ u) ≡ whole_said number (acc ++ take (stop room t) t) (drop (stop room t) t ++ u)
unfolding whole_said stop
whole-taken number room acc [] u = rw (append-nil acc) refl
whole-taken number room acc (b ∷ t) u = go (eqb b 10) refl (eqb room 0) (whole-taken number (room - 1) (acc ++ b ∷ []) t u)
  where
    go : (x : Bool) → eqb b 10 ≡ x → (y : Bool)
        → whole_said number (acc ++ b ∷ []) (t ++ u)
        ≡ whole_said number ((acc ++ b ∷ []) ++ take (stop (room - 1) t) t) (drop (stop (room - 1) t) t ++ u)
        → whole_said number acc (b ∷ (t ++ u))
        ≡ whole_said number (acc ++ take (cond (x || y) 0 (suc (stop (room - 1) t))) (b ∷ t)) (drop (cond (x || y) 0 (suc (stop (room - 1) t))) (b ∷ t) ++ u)
    go true e y h = rw (append-nil acc) refl
    go false e true h = rw (append-nil acc) refl
    go false e false h = rw (e, ← append_snoc acc b (take (stop (room - 1) t) t)) h

rest-taken : (number room : ℕ) (acc t u : List ℕ) → rest_said number acc (t ++ u) ≡ rest_said number (acc ++ take (stop room t) t) (drop (stop room t) t ++ u)
unfolding stop
rest-taken number room acc [] u = rw (append-nil acc) refl
rest-taken number room acc (b ∷ t) u = go (eqb b 10) refl (eqb room 0) (rest-taken number (room - 1) (acc ++ b ∷ []) t u)
  where
    go : (x : Bool) → eqb b 10 ≡ x → (y : Bool)
        → rest_said number (acc ++ b ∷ []) (t ++ u)
        ≡ rest_said number ((acc ++ b ∷ []) ++ take (stop (room - 1) t) t) (drop (stop (room - 1) t) t ++ u)
        → rest_said number acc (b ∷ (t ++ u))
        ≡ rest_said number (acc ++ take (cond (x || y) 0 (suc (stop (room - 1) t))) (b ∷ t)) (drop (cond (x || y) 0 (suc (stop (room - 1) t))) (b ∷ t) ++ u)
    go true e y h = rw (append-nil acc) refl
    go false e true h = rw (append-nil acc) refl
    go false e false h = rw (e, ← append_snoc acc b (take (stop (room - 1) t) t)) h

due-taken : (over : Bool) (number room : ℕ) (acc t u : List ℕ) → due over number acc (t ++ u) ≡ due over number (acc ++ take (stop room t) t) (drop (stop room t) t ++ u)
due-taken false number room acc t u = whole-taken number room acc t u
due-taken true number room acc t u = rest-taken number room acc t u

-- ---- bytes of such a line that went on already
rest-split : (number : ℕ) (pre acc t : List ℕ) → rest_said number (pre ++ acc) t ≡ both (said pre []) (rest_said number acc t)
rest-split number pre acc [] = refl
rest-split number pre acc (b ∷ t) = go (eqb b 10) (rest-split number pre (acc ++ b ∷ []) t)
  where
    go : (x : Bool) → rest_said number (pre ++ (acc ++ b ∷ [])) t ≡ both (said pre []) (rest_said number (acc ++ b ∷ []) t)
        → cond x (both (said ((pre ++ acc) ++ 10 ∷ []) []) (whole_said (number_behind number) [] t)) (rest_said number ((pre ++ acc) ++ b ∷ []) t)
        ≡ both (said pre []) (cond x (both (said (acc ++ 10 ∷ []) []) (whole_said (number_behind number) [] t)) (rest_said number (acc ++ b ∷ []) t))
    go true h =
        rw (append_assoc pre acc (10 ∷ [])) (both_assoc (said pre []) (said (acc ++ 10 ∷ []) []) (whole_said (number_behind number) [] t))
    go false h = rw (append_assoc pre acc (b ∷ [])) h

-- a line of over 1,024 bytes is itself, with one row
over_last : (number : ℕ) (z : List ℕ) → 1024 < length z → last_as number z ≡ said z (over_row number)
unfolding line_for rows_for
over_last number z h = rw (lt-ltb 1024 (length z) h) refl

size-most : (z : List ℕ) → length z - 1 ≤ size_in z (length z)
unfolding size_in
size-most z = go (eqb (length z) 0) refl (eqb (get_or z (length z - 1) 0) 13)
  where
    go : (x : Bool) → eqb (length z) 0 ≡ x → (y : Bool) → length z - 1 ≤ cond x 0 (cond y (length z - 1) (length z))
    go true e y = let k = eqb-true (length z) 0 e in omega arith
    go false e true = omega arith
    go false e false = omega arith

over-ended : (number : ℕ) (z : List ℕ) → 1025 < length z → ended_as number z ≡ said (z ++ 10 ∷ []) (over_row number)
unfolding line_for rows_for
over-ended number z h =
    let k = size_in z (length z) in
    let many = length-take-le k z (size-le z (length z)) in
    let most = size-most z in
    rw (lt-ltb 1024 (length (line_in z)) (omega arith), take-append-drop k z) refl

whole-over : (number : ℕ) (pre acc t : List ℕ) → 1025 < length (pre ++ acc) → whole_said number (pre ++ acc) t ≡ both (said pre (over_row number)) (rest_said number acc t)
unfolding whole_said
whole-over number pre acc [] h = over_last number (pre ++ acc) (omega arith) ∙ rw (append-nil (over_row number)) refl
whole-over number pre acc (b ∷ t) h =
    go (eqb b 10)
    (whole-over number pre (acc ++ b ∷ []) t (omega (arith, length-append pre (acc ++ b ∷ []), length-append acc (b ∷ []), length-append pre acc)))
  where
    go : (x : Bool) → whole_said number (pre ++ (acc ++ b ∷ [])) t ≡ both (said pre (over_row number)) (rest_said number (acc ++ b ∷ []) t)
        → cond x (both (ended_as number (pre ++ acc)) (whole_said (number_behind number) [] t)) (whole_said number ((pre ++ acc) ++ b ∷ []) t)
        ≡ both (said pre (over_row number)) (cond x (both (said (acc ++ 10 ∷ []) []) (whole_said (number_behind number) [] t)) (rest_said number (acc ++ b ∷ []) t))
    go true g =
        ap (λ (x : Said). both x (whole_said (number_behind number) [] t)) (over-ended number (pre ++ acc) h)
        ∙ rw (append_assoc pre acc (10 ∷ []))
        (ap (λ (x : List ℕ). both (said (pre ++ (acc ++ 10 ∷ [])) x) (whole_said (number_behind number) [] t)) (sym (append-nil (over_row number)))
        ∙ both_assoc (said pre (over_row number)) (said (acc ++ 10 ∷ []) []) (whole_said (number_behind number) [] t))
    go false g = rw (append_assoc pre acc (b ∷ [])) g

-- bytes that go on because there is no more room for them
due-full : (over : Bool) (number : ℕ) (text t : List ℕ) → 1025 < length text → due over number text t ≡ both (text_as over number text) (rest_said number [] t)
due-full false number text t h =
    let e = append-nil text in
    ap (λ (x : List ℕ). whole_said number x t) (sym e)
    ∙ whole-over number text [] t (rw e h)
    ∙ ap (λ (x : Said). both x (rest_said number [] t)) (sym (over_last number text (omega arith)))
due-full true number text t h = ap (λ (x : List ℕ). rest_said number x t) (sym (append-nil text)) ∙ rest-split number text [] t

due-ended : (over : Bool) (number : ℕ) (text t : List ℕ) → due over number text (10 ∷ t) ≡ both (end_as over number text) (whole_said (number_behind number) [] t)
unfolding whole_said
due-ended false number text t = refl
due-ended true number text t = refl

-- ---- where the taking stops
stop-lf : (room : ℕ) (t : List ℕ) → stop room t < length t → stop room t < room → drop (stop room t) t ≡ 10 ∷ drop (suc (stop room t)) t
unfolding stop
stop-lf room [] h k = absurd (omega arith)
stop-lf room (b ∷ t) h k = go (eqb b 10) refl (eqb room 0) refl h k (stop-lf (room - 1) t)
  where
    go : (x : Bool) → eqb b 10 ≡ x → (y : Bool) → eqb room 0 ≡ y
        → cond (x || y) 0 (suc (stop (room - 1) t)) < suc (length t) → cond (x || y) 0 (suc (stop (room - 1) t)) < room
        → (stop (room - 1) t < length t → stop (room - 1) t < room - 1 → drop (stop (room - 1) t) t ≡ 10 ∷ drop (suc (stop (room - 1) t)) t)
        → drop (cond (x || y) 0 (suc (stop (room - 1) t))) (b ∷ t) ≡ 10 ∷ drop (suc (cond (x || y) 0 (suc (stop (room - 1) t)))) (b ∷ t)
    go true e y f h k r = rw (eqb-true b 10 e) refl
    go false e true f h k r = absurd (omega (arith, eqb-true room 0 f))
    go false e false f h k r = r (omega arith) (omega arith)

-- ---- a turn
module _ (s : State) (t : List ℕ) (h : s.held.n < 1026) (size : length s.kept ≡ 1026) where
  abbrev k : ℕ
  k = stop (most_kept - s.held.n) t

  -- what is held with the bytes that are taken
  text-is : text_of (absorbed s t) ≡ text_of s ++ take k t
  text-is =
      let n = s.held.n in
      let le = stop_le (most_kept - n) t in
      let many = length-take-le k t le.0 in
      let front = length-take-le n s.kept (omega arith) in
      ap (take (n + k)) (sets-eq (take k t) s.kept n (omega (arith, le.1)))
      ∙ take_at (take n s.kept ++ take k t) (drop (n + length (take k t)) s.kept) (n + k)
      (length-append (take n s.kept) (take k t) ∙ rw (many, front) refl)

  text-size : length (text_of (absorbed s t)) ≡ s.held.n + k
  text-size =
      let le = stop_le (most_kept - s.held.n) t in
      ap length text-is
      ∙ length-append (text_of s) (take k t)
      ∙ rw (length-take-le k t le.0, length-take-le s.held.n s.kept (omega arith)) refl

  pub due-turn : (u : List ℕ) → due_by s (t ++ u) ≡ both (turn s t).says (due_by (turn s t).after (drop (turn s t).taken t ++ u))
  unfolding turn
  due-turn u =
      due-taken s.held.over s.held.number (most_kept - s.held.n) (text_of s) t u
      ∙ ap (λ (x : List ℕ). due s.held.over s.held.number x (drop k t ++ u)) (sym text-is)
      ∙ go (eqb (absorbed s t).held.n most_kept) refl (ltb k (length t)) refl
    where
      go : (x : Bool) → eqb (absorbed s t).held.n most_kept ≡ x → (y : Bool) → ltb k (length t) ≡ y
          → due s.held.over s.held.number (text_of (absorbed s t)) (drop k t ++ u)
          ≡ both (chosen x y s t).says (due_by (chosen x y s t).after (drop (chosen x y s t).taken t ++ u))
      go true e y f =
          let full = eqb-true (s.held.n + k) most_kept e in
          due-full s.held.over s.held.number (text_of (absorbed s t)) (drop k t ++ u) (omega (arith, text-size))
      go false e true f =
          let some = ltb-true k (length t) f in
          let room = eqb-false (s.held.n + k) most_kept e in
          let lf = stop-lf (most_kept - s.held.n) t some (omega (arith, (stop_le (most_kept - s.held.n) t).1)) in
          ap (λ (x : List ℕ). due s.held.over s.held.number (text_of (absorbed s t)) (x ++ u)) lf
          ∙ due-ended s.held.over s.held.number (text_of (absorbed s t)) (drop (suc k) t ++ u)
      go false e false f = refl

pub due-first : (kept f : List ℕ) → due_by (state (none 1) kept) f ≡ mended_input f
due-first kept f = refl

pub due-last : (s : State) → due_by s [] ≡ text_said s
unfolding whole_said
due-last s = go s.held.over
  where
    go : (x : Bool) → due x s.held.number (text_of s) [] ≡ text_as x s.held.number (text_of s)
    go true = refl
    go false = refl
