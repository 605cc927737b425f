-- What a line does to the counts: so after line upon line each is a count of lines, up to where it stops.
--     entered-size          69 words stay
--     lines-counted         every line counts as one
--     faulty-counted        one that was accepted and has faults counts as such
--     refused-counted       and so does one that was refused
--     fault-counted         a field that wasn't read counts for its own group, and for no other
-- Assumes nothing.
use Prim.Native.Nat.{ℕ, ◌+◌, ◌-◌, ◌*◌, ◌^◌, ◌≤◌, ◌<◌, min}
use mathlib.Core.Path.{◌≡◌, refl, ap, ◌∙◌}
use mathlib.Core.Bool.{Bool, true, false, cond, ◌||◌}
use mathlib.Core.List.{List, [], ◌∷◌}
use Rattle.std.specs.Prelude.{Result, Ok, Err}
use native.Mathlib.Omega.{arith}
use borrow.Author.Tests.{eqb-true, eqb-false}
use lib.Dec.{eqb, ltb}
use lib.ListN.{length, take, set, length-set}
use lib.Seq.{get_or-set_same, get_or-set_other}
use Rattle.kind.specs.Kind.{number_of}
use Rattle.kind.specs.declared.Kind.{Kind}
use Rattle.lexitem.specs.declared.answer.Answer.{Answer}
use Rattle.lexitem.specs.declared.fault.LineFaults.{LineFaults}
use Rattle.lexitem.specs.declared.answer.Refusal.{Refusal}
use Rattle.lexitem.specs.declared.item.LexItem.{LexItem}
use Rattle.line.specs.declared.fault.Fault.{Fault}
use Rattle.names.specs.Names.{group_of}
use Rattle.ledger.specs.Ledger.{word, added, raised, one, has_cr, is_cut, is_off, with_line, with_kind, with_first, with_fault, with_faults, with_accepted, with_refused, entered_by, entered}

-- where a count stops
abbrev pub most : ℕ
most = 2 ^ 64 - 1

-- ---- one word
module _ (ws : List ℕ) (n : ℕ) where
  added-size : (m : ℕ) → length (added ws n m) ≡ length ws
  unfolding added
  added-size m = length-set ws n _

  added-same : (m : ℕ) → n < length ws → word (added ws n m) n ≡ min (word ws n + m) most
  unfolding added
  added-same m h = get_or-set_same ws n _ 0 h

  added-other : (m j : ℕ) → (j ≡ n → ⊥) → word (added ws n m) j ≡ word ws j
  unfolding added
  added-other m j h = get_or-set_other ws n j _ 0 h

  raised-size : (b : Bool) → length (raised ws n b) ≡ length ws
  unfolding raised
  raised-size true = length-set ws n 1
  raised-size false = refl

  raised-other : (b : Bool) (j : ℕ) → (j ≡ n → ⊥) → word (raised ws n b) j ≡ word ws j
  unfolding raised
  raised-other true j h = get_or-set_other ws n j 1 0 h
  raised-other false j h = refl

-- ---- a field that wasn't read
module _ (ws : List ℕ) (line g : ℕ) where
  first-size : length (with_first ws line g) ≡ length ws
  unfolding with_first
  first-size = go (eqb (word ws (9 + 3 * g)) 0)
    where
      go : (b : Bool) → length (cond b (set ws (10 + 3 * g) line) ws) ≡ length ws
      go true = length-set ws (10 + 3 * g) line
      go false = refl

  first-other : (j : ℕ) → (j ≡ 10 + 3 * g → ⊥) → word (with_first ws line g) j ≡ word ws j
  unfolding with_first
  first-other j h = go (eqb (word ws (9 + 3 * g)) 0)
    where
      go : (b : Bool) → word (cond b (set ws (10 + 3 * g) line) ws) j ≡ word ws j
      go true = get_or-set_other ws (10 + 3 * g) j line 0 h
      go false = refl

  fault-size : length (with_fault ws line g) ≡ length ws
  unfolding with_fault
  fault-size = added-size _ (9 + 3 * g) 1 ∙ length-set (with_first ws line g) (11 + 3 * g) line ∙ first-size

  -- but for the three of the group
  fault-other : (j : ℕ) → (j ≡ 9 + 3 * g → ⊥) → (j ≡ 10 + 3 * g → ⊥) → (j ≡ 11 + 3 * g → ⊥) → word (with_fault ws line g) j ≡ word ws j
  unfolding with_fault
  fault-other j a b c = added-other _ (9 + 3 * g) 1 j a ∙ get_or-set_other (with_first ws line g) (11 + 3 * g) j line 0 c ∙ first-other j b

  pub fault-counted : (h : ℕ) → length ws ≡ 69 → g < 20
      → word (with_fault ws line g) (9 + 3 * h) ≡ cond (eqb h g) (min (word ws (9 + 3 * h) + 1) most) (word ws (9 + 3 * h))
  unfolding with_fault
  fault-counted h size few = go (eqb h g) refl
    where
      go : (b : Bool) → eqb h g ≡ b → word (with_fault ws line g) (9 + 3 * h) ≡ cond b (min (word ws (9 + 3 * h) + 1) most) (word ws (9 + 3 * h))
      go true e =
          let i = eqb-true h g e in
          let middle = set (with_first ws line g) (11 + 3 * g) line in
          let long = length-set (with_first ws line g) (11 + 3 * g) line ∙ first-size in
          rw i (added-same middle (9 + 3 * g) 1 (omega arith)
          ∙ ap (λ (n : ℕ). min (n + 1) most)
          (get_or-set_other (with_first ws line g) (11 + 3 * g) (9 + 3 * g) line 0 (λ z. omega arith) ∙ first-other (9 + 3 * g) (λ z. omega arith)))
      go false e =
          let i = eqb-false h g e in
          fault-other (9 + 3 * h) (λ z. i (omega arith)) (λ z. omega arith) (λ z. omega arith)

faults-size : (ws : List ℕ) (line : ℕ) (k : Kind) (fs : List Fault) → length (with_faults ws line k fs) ≡ length ws
unfolding with_faults
faults-size ws line k [] = refl
faults-size ws line k (f ∷ t) = faults-size (with_fault ws line (group_of k f.place)) line k t ∙ fault-size ws line (group_of k f.place)

faults-low : (ws : List ℕ) (line : ℕ) (k : Kind) (fs : List Fault) (j : ℕ) → j < 9 → word (with_faults ws line k fs) j ≡ word ws j
unfolding with_faults
faults-low ws line k [] j h = refl
faults-low ws line k (f ∷ t) j h =
    faults-low (with_fault ws line (group_of k f.place)) line k t j h ∙ fault-other ws line (group_of k f.place) j (λ z. omega arith) (λ z. omega arith) (λ z. omega arith)

-- ---- by the kind
module _ (ws : List ℕ) (k : ℕ) (off : Bool) where
  kind-size : length (with_kind ws k off) ≡ length ws
  unfolding with_kind
  kind-size = raised-size _ 6 _ ∙ added-size _ 5 _ ∙ added-size _ 4 _ ∙ added-size ws 1 _

  kind-other : (j : ℕ) → (j ≡ 1 → ⊥) → (j ≡ 4 → ⊥) → (j ≡ 5 → ⊥) → (j ≡ 6 → ⊥) → word (with_kind ws k off) j ≡ word ws j
  unfolding with_kind
  kind-other j a b c d = raised-other _ 6 _ j d ∙ added-other _ 5 _ j c ∙ added-other _ 4 _ j b ∙ added-other ws 1 _ j a

-- ---- any line
module _ (ws l : List ℕ) where
  line-size : length (with_line ws l) ≡ length ws
  unfolding with_line
  line-size = raised-size _ 8 (has_cr l) ∙ added-size ws 0 1

  line_first : length ws ≡ 69 → word (with_line ws l) 0 ≡ min (word ws 0 + 1) most
  unfolding with_line
  line_first h = raised-other _ 8 (has_cr l) 0 (λ z. omega arith) ∙ added-same ws 0 1 (omega arith)

  line_other : (j : ℕ) → (j ≡ 0 → ⊥) → (j ≡ 8 → ⊥) → word (with_line ws l) j ≡ word ws j
  unfolding with_line
  line_other j a b = raised-other _ 8 (has_cr l) j b ∙ added-other ws 0 1 j a

-- ---- a line that was accepted, and one that was refused
module _ (ws : List ℕ) (line : ℕ) (k : Kind) (fs : List Fault) where
  abbrev kinds : List ℕ
  kinds = with_kind ws (number_of k) (is_off fs)

  abbrev faulty : List ℕ
  faulty = added kinds 2 (one (ltb 0 (length fs)))

  accepted-size : length (with_accepted ws line k fs) ≡ length ws
  unfolding with_accepted
  accepted-size = faults-size _ line k fs ∙ length-set faulty 7 (one (is_cut fs)) ∙ added-size kinds 2 _ ∙ kind-size ws (number_of k) (is_off fs)

  accepted-other : (j : ℕ) → j < 9 → (j ≡ 1 → ⊥) → (j ≡ 2 → ⊥) → (j ≡ 4 → ⊥) → (j ≡ 5 → ⊥) → (j ≡ 6 → ⊥) → (j ≡ 7 → ⊥)
      → word (with_accepted ws line k fs) j ≡ word ws j
  unfolding with_accepted
  accepted-other j low a b c d e f =
      faults-low _ line k fs j low ∙ get_or-set_other faulty 7 j (one (is_cut fs)) 0 f ∙ added-other kinds 2 (one (ltb 0 (length fs))) j b
      ∙ kind-other ws (number_of k) (is_off fs) j a c d e

  accepted-faulty : length ws ≡ 69 → word (with_accepted ws line k fs) 2 ≡ min (word ws 2 + one (ltb 0 (length fs))) most
  unfolding with_accepted
  accepted-faulty size =
      faults-low _ line k fs 2 (omega arith) ∙ get_or-set_other faulty 7 2 (one (is_cut fs)) 0 (λ z. omega arith)
      ∙ added-same kinds 2 (one (ltb 0 (length fs))) (omega (arith, kind-size ws (number_of k) (is_off fs)))
      ∙ ap (λ (n : ℕ). min (n + one (ltb 0 (length fs))) most)
      (kind-other ws (number_of k) (is_off fs) 2 (λ z. omega arith) (λ z. omega arith) (λ z. omega arith) (λ z. omega arith))

module _ (ws : List ℕ) (number : ℕ) where
  abbrev cut : ℕ
  cut = one (eqb number 4 || eqb number 6)

  refused-size : length (with_refused ws number) ≡ length ws
  unfolding with_refused
  refused-size = length-set (added ws 3 1) 7 cut ∙ added-size ws 3 1

  refused-other : (j : ℕ) → (j ≡ 3 → ⊥) → (j ≡ 7 → ⊥) → word (with_refused ws number) j ≡ word ws j
  unfolding with_refused
  refused-other j a b = get_or-set_other (added ws 3 1) 7 j cut 0 b ∙ added-other ws 3 1 j a

  refused-three : length ws ≡ 69 → word (with_refused ws number) 3 ≡ min (word ws 3 + 1) most
  unfolding with_refused
  refused-three size = get_or-set_other (added ws 3 1) 7 3 cut 0 (λ z. omega arith) ∙ added-same ws 3 1 (omega arith)

-- ---- a line with its answer
-- whether it was refused; or how many faults it has
abbrev pub is_refused : Result LexItem Refusal → Bool
is_refused (Ok item) = false
is_refused (Err r) = true

abbrev pub faults_by : Result LexItem Refusal → LineFaults → List Fault
faults_by (Ok item) fs = take fs.count fs.list
faults_by (Err r) fs = []

by_size : (ws : List ℕ) (o : Result LexItem Refusal) (fs : LineFaults) → length (entered_by ws o fs) ≡ length ws
by_size ws (Ok item) fs = accepted-size ws fs.line fs.kind _
by_size ws (Err r) fs = refused-size ws r.number

by_lines : (ws : List ℕ) (o : Result LexItem Refusal) (fs : LineFaults) → word (entered_by ws o fs) 0 ≡ word ws 0
by_lines ws (Ok item) fs =
    accepted-other ws fs.line fs.kind _ 0 (omega arith) (λ z. omega arith) (λ z. omega arith) (λ z. omega arith) (λ z. omega arith) (λ z. omega arith) (λ z. omega arith)
by_lines ws (Err r) fs = refused-other ws r.number 0 (λ z. omega arith) (λ z. omega arith)

by_refused : (ws : List ℕ) (o : Result LexItem Refusal) (fs : LineFaults) → length ws ≡ 69
    → word (entered_by ws o fs) 3 ≡ cond (is_refused o) (min (word ws 3 + 1) most) (word ws 3)
by_refused ws (Ok item) fs size =
    accepted-other ws fs.line fs.kind _ 3 (omega arith) (λ z. omega arith) (λ z. omega arith) (λ z. omega arith) (λ z. omega arith) (λ z. omega arith) (λ z. omega arith)
by_refused ws (Err r) fs size = refused-three ws r.number size

by_faulty : (ws : List ℕ) (o : Result LexItem Refusal) (fs : LineFaults) → length ws ≡ 69 → word ws 2 ≤ most
    → word (entered_by ws o fs) 2 ≡ min (word ws 2 + one (ltb 0 (length (faults_by o fs)))) most
by_faulty ws (Ok item) fs size few = accepted-faulty ws fs.line fs.kind _ size
by_faulty ws (Err r) fs size few = refused-other ws r.number 2 (λ z. omega arith) (λ z. omega arith) ∙ omega arith

module _ (ws l : List ℕ) (a : Answer) where
  pub entered-size : length (entered ws l a) ≡ length ws
  unfolding entered
  entered-size = by_size (with_line ws l) a.outcome a.faults ∙ line-size ws l

  module _ (size : length ws ≡ 69) where
    pub lines-counted : word (entered ws l a) 0 ≡ min (word ws 0 + 1) most
    unfolding entered
    lines-counted = by_lines (with_line ws l) a.outcome a.faults ∙ line_first ws l size

    pub refused-counted : word (entered ws l a) 3 ≡ cond (is_refused a.outcome) (min (word ws 3 + 1) most) (word ws 3)
    unfolding entered
    refused-counted =
        by_refused (with_line ws l) a.outcome a.faults (line-size ws l ∙ size)
        ∙ ap (λ (n : ℕ). cond (is_refused a.outcome) (min (n + 1) most) n) (line_other ws l 3 (λ z. omega arith) (λ z. omega arith))

    pub faulty-counted : word ws 2 ≤ most → word (entered ws l a) 2 ≡ min (word ws 2 + one (ltb 0 (length (faults_by a.outcome a.faults)))) most
    unfolding entered
    faulty-counted few =
        let same = line_other ws l 2 (λ z. omega arith) (λ z. omega arith) in
        by_faulty (with_line ws l) a.outcome a.faults (line-size ws l ∙ size) (omega arith)
        ∙ ap (λ (n : ℕ). min (n + one (ltb 0 (length (faults_by a.outcome a.faults)))) most) same
