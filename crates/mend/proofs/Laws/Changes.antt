-- Laws of the list of changes.
--     changes_few         512 suffice
--     changes_again       a mended line has none
--     named-high          before the line's end they name the bytes of 128 or more, and no other
--     named-padding       behind it, the blanks that were put there
--     named-beyond        and nothing further
--     unnamed_same        a place that isn't named has the same byte, or none in both
--     undone              undoing gives back the line but for its bytes of 128 or more
--     undone-length, undone-at    so its length, and every byte that isn't named
-- Assumes nothing.
use Prim.Native.Nat.{ℕ, zero, suc, ◌+◌, ◌-◌, ◌*◌, ◌<◌, ◌≤◌}
use mathlib.Core.Path.{◌≡◌, refl, sym, ap, ◌∙◌}
use mathlib.Core.Bool.{Bool, true, false, cond, ◌&&◌, ◌||◌}
use mathlib.Core.List.{List, [], ◌∷◌, ◌++◌, append-nil, append_assoc}
use native.Mathlib.Omega.{arith}
use borrow.Author.Tests.{ltb-true, ltb-false, lt-ltb, le-ltb, le-leb, lt-leb, leb-false, eqb-true, eqb-false, ne_eqb}
use lib.ListN.{length, get_or, replicate, length-append, get_or-eq_default}
use lib.Seq.{take_at}
use lib.Dec.{ltb, leb, eqb}
use Rattle.number.proofs.Laws.Choice.{clash}
use Rattle.margins.specs.Differ.{Low}
use Rattle.mend.specs.Mend.{questioned, padding, mended}
use Rattle.mend.specs.Changes.{What, Change, change, runs, changes_of, names, named, undo_all}
use Rattle.mend.proofs.Laws.Bytes.{byte_kept, questioned-length, questioned-at, questioned-low}
use Rattle.mend.proofs.Laws.Mended.{padding-full, padding-again, mended-length, mended-low, mended-front}

-- ---- how many
-- 1 if there is an open run
abbrev one : ℕ → ℕ
one n = cond (eqb n 0) 0 1

change-count : (w : What) (at n : ℕ) → length (change w at n) ≡ one n
change-count w at n = go (eqb n 0)
  where
    go : (x : Bool) → length (cond {A = List Change} x [] (record { place = at - n; length = n; what = w } ∷ [])) ≡ cond x 0 1
    go true = refl
    go false = refl

one-le : (n : ℕ) → one n ≤ 1
one-le n = go (eqb n 0)
  where
    go : (x : Bool) → cond x 0 1 ≤ 1
    go true = omega arith
    go false = omega arith

pub runs-count : (at n : ℕ) (t : List ℕ) → 2 * length (runs at n t) ≤ length t + 1 + one n
unfolding runs
runs-count at n [] = omega (arith, change-count What.replaced at n, one-le n)
runs-count at n (b ∷ t) = go (ltb b 128) (runs-count (suc at) 0 t) (runs-count (suc at) (suc n) t)
  where
    go : (x : Bool) → 2 * length (runs (suc at) 0 t) ≤ length t + 1 + one 0 → 2 * length (runs (suc at) (suc n) t) ≤ length t + 1 + one (suc n)
        → 2 * length (cond x (change What.replaced at n ++ runs (suc at) 0 t) (runs (suc at) (suc n) t)) ≤ suc (length t) + 1 + one n
    go true p q =
        omega (arith, length-append (change What.replaced at n) (runs (suc at) 0 t), change-count What.replaced at n, one-le n)
    go false p q = omega (arith, one-le (suc n))

pub changes_few : (l : List ℕ) → length l ≤ 1024 → length (changes_of l) ≤ 512
unfolding changes_of
changes_few l h = go (eqb (padding l) 0) refl
  where
    go : (x : Bool) → eqb (padding l) 0 ≡ x → length (runs 0 0 l ++ change What.padded (length l + padding l) (padding l)) ≤ 512
    go true e =
        let z = eqb-true (padding l) 0 e in
        let c : length (change What.padded (length l + padding l) (padding l)) ≡ 0 = rw z refl in
        omega (arith, runs-count 0 0 l, length-append (runs 0 0 l) (change What.padded (length l + padding l) (padding l)))
    go false e =
        let z = eqb-false (padding l) 0 e in
        let f = padding-full l (omega arith) in
        omega (
          arith,
          runs-count 0 0 l,
          length-append (runs 0 0 l) (change What.padded (length l + padding l) (padding l)),
          change-count What.padded (length l + padding l) (padding l),
          one-le (padding l),
        )

-- ---- a mended line has none
runs_none : (at : ℕ) (t : List ℕ) → Low t → runs at 0 t ≡ []
unfolding runs
runs_none at [] h = refl
runs_none at (b ∷ t) h = rw (lt-ltb b 128 (h 0)) (runs_none (suc at) t (λ i. h (suc i)))

pub changes_again : (l : List ℕ) → changes_of (mended l) ≡ []
unfolding changes_of
changes_again l =
    let low : Low (mended l) = λ at. rw (mended-low l) at (questioned-low (mended l) at) in
    rw (runs_none 0 (mended l) low, padding-again l) refl

-- ---- what they name
pub or_none : (b : Bool) → b || false ≡ b
or_none true = refl
or_none false = refl

or_assoc : (a b c : Bool) → (a || b) || c ≡ a || (b || c)
or_assoc true b c = refl
or_assoc false b c = refl

named-append : (xs ys : List Change) (i : ℕ) → named (xs ++ ys) i ≡ named xs i || named ys i
named-append [] ys i = refl
named-append (x ∷ xs) ys i = rw (named-append xs ys i) (sym (or_assoc (names x i) (named xs i) (named ys i)))

module _ (w : What) (at n i : ℕ) where
  -- before the n bytes, and behind them
  change-before : i < at - n → named (change w at n) i ≡ false
  change-before h = go (eqb n 0)
    where
      go : (x : Bool) → named (cond {A = List Change} x [] (record { place = at - n; length = n; what = w } ∷ [])) i ≡ false
      go true = refl
      go false = rw (lt-leb (at - n) i h) refl

  change-behind : n ≤ at → at ≤ i → named (change w at n) i ≡ false
  change-behind p h = go (eqb n 0)
    where
      both : (b : Bool) → (b && false) || false ≡ false
      both true = refl
      both false = refl

      go : (x : Bool) → named (cond {A = List Change} x [] (record { place = at - n; length = n; what = w } ∷ [])) i ≡ false
      go true = refl
      go false = rw (le-ltb i (at - n + n) (omega arith)) (both (leb (at - n) i))

  change_in : n ≤ at → at - n ≤ i → i < at → named (change w at n) i ≡ true
  change_in p q h =
      let z : n ≡ 0 → ⊥ = λ e. omega arith in
      rw (ne_eqb n 0 z, le-leb (at - n) i q, lt-ltb i (at - n + n) (omega arith)) refl

either : (x a : Bool) (p q : List Change) (i : ℕ) → named p i ≡ a → named q i ≡ a → named (cond x p q) i ≡ a
either true a p q i e f = e
either false a p q i e f = f

runs-before : (at n : ℕ) (t : List ℕ) (i : ℕ) → n ≤ at → i < at - n → named (runs at n t) i ≡ false
unfolding runs
runs-before at n [] i p h = change-before What.replaced at n i h
runs-before at n (b ∷ t) i p h =
    either (ltb b 128) false (change What.replaced at n ++ runs (suc at) 0 t) (runs (suc at) (suc n) t) i
    (named-append (change What.replaced at n) (runs (suc at) 0 t) i
    ∙ rw (change-before What.replaced at n i h, runs-before (suc at) 0 t i (omega arith) (omega arith)) refl)
    (runs-before (suc at) (suc n) t i (omega arith) (omega arith))

runs_in : (at n : ℕ) (t : List ℕ) (i : ℕ) → n ≤ at → at - n ≤ i → i < at → named (runs at n t) i ≡ true
unfolding runs
runs_in at n [] i p q h = change_in What.replaced at n i p q h
runs_in at n (b ∷ t) i p q h =
    either (ltb b 128) true (change What.replaced at n ++ runs (suc at) 0 t) (runs (suc at) (suc n) t) i
    (named-append (change What.replaced at n) (runs (suc at) 0 t) i ∙ rw (change_in What.replaced at n i p q h) refl)
    (runs_in (suc at) (suc n) t i (omega arith) (omega arith) (omega arith))

runs-at : (at n : ℕ) (t : List ℕ) (j : ℕ) → n ≤ at → named (runs at n t) (at + j) ≡ leb 128 (get_or t j 0)
unfolding runs
runs-at at n [] j p = change-behind What.replaced at n (at + j) p (omega arith)
runs-at at n (b ∷ t) zero p = go (ltb b 128) refl
  where
    go : (x : Bool) → ltb b 128 ≡ x
        → named (cond x (change What.replaced at n ++ runs (suc at) 0 t) (runs (suc at) (suc n) t)) (at + 0) ≡ leb 128 b
    go true e =
        let low = ltb-true b 128 e in
        named-append (change What.replaced at n) (runs (suc at) 0 t) (at + 0)
        ∙ rw (change-behind What.replaced at n (at + 0) p (omega arith), runs-before (suc at) 0 t (at + 0) (omega arith) (omega arith)) (sym (lt-leb 128 b low))
    go false e =
        let high = ltb-false b 128 e in
        runs_in (suc at) (suc n) t (at + 0) (omega arith) (omega arith) (omega arith) ∙ sym (le-leb 128 b high)
runs-at at n (b ∷ t) (suc j) p =
    let e : at + suc j ≡ suc at + j = omega arith in
    either (ltb b 128) (leb 128 (get_or t j 0)) (change What.replaced at n ++ runs (suc at) 0 t) (runs (suc at) (suc n) t) (at + suc j)
    (named-append (change What.replaced at n) (runs (suc at) 0 t) (at + suc j)
    ∙ rw (change-behind What.replaced at n (at + suc j) p (omega arith)) (rw e (runs-at (suc at) 0 t j (omega arith))))
    (rw e (runs-at (suc at) (suc n) t j (omega arith)))

module _ (l : List ℕ) (i : ℕ) where
  runs-high : named (runs 0 0 l) i ≡ leb 128 (get_or l i 0)
  runs-high = let e : 0 + i ≡ i = omega arith in rw e at (runs-at 0 0 l i (omega arith))

  -- a byte before the line's end is named if it is 128 or more
  pub named-high : i < length l → named (changes_of l) i ≡ leb 128 (get_or l i 0)
  unfolding changes_of
  named-high h =
      let p = change-before What.padded (length l + padding l) (padding l) i (omega arith) in
      named-append (runs 0 0 l) (change What.padded (length l + padding l) (padding l)) i ∙ rw (runs-high, p) (or_none (leb 128 (get_or l i 0)))

  -- a place behind it, if a blank was put there
  pub named-padding : length l ≤ i → i < length (mended l) → named (changes_of l) i ≡ true
  unfolding changes_of
  named-padding h k =
      let n = mended-length l in
      let p = change_in What.padded (length l + padding l) (padding l) i (omega arith) (omega arith) (omega arith) in
      named-append (runs 0 0 l) (change What.padded (length l + padding l) (padding l)) i ∙ rw p (any (named (runs 0 0 l) i))
    where
      any : (b : Bool) → b || true ≡ true
      any true = refl
      any false = refl

  -- a place behind the mended line isn't named
  pub named-beyond : length (mended l) ≤ i → named (changes_of l) i ≡ false
  unfolding changes_of
  named-beyond h =
      let n = mended-length l in
      let p = change-behind What.padded (length l + padding l) (padding l) i (omega arith) (omega arith) in
      named-append (runs 0 0 l) (change What.padded (length l + padding l) (padding l)) i
      ∙ rw (runs-high, p, get_or-eq_default l 0 {n = i} (omega arith)) refl

  pub unnamed_same : named (changes_of l) i ≡ false → get_or l i 0 ≡ get_or (mended l) i 0
  unnamed_same e = go (ltb i (length l)) refl (ltb i (length (mended l))) refl
    where
      go : (x : Bool) → ltb i (length l) ≡ x → (y : Bool) → ltb i (length (mended l)) ≡ y → get_or l i 0 ≡ get_or (mended l) i 0
      go true p y q =
          let h = ltb-true i (length l) p in
          let low : get_or l i 0 < 128 = leb-false 128 (get_or l i 0) (sym (named-high h) ∙ e) in
          sym (mended-front l i h ∙ byte_kept (get_or l i 0) low)
      go false p true q =
          absurd (clash (named-padding (ltb-false i (length l) p) (ltb-true i (length (mended l)) q)) e)
      go false p false q =
          get_or-eq_default l 0 (ltb-false i (length l) p) ∙ sym (get_or-eq_default (mended l) 0 (ltb-false i (length (mended l)) q))

-- ---- undoing
undo_change : (at n : ℕ) (cs : List Change) (m : List ℕ) → undo_all (change What.replaced at n ++ cs) m ≡ undo_all cs m
undo_change at n cs m = go (eqb n 0)
  where
    go : (x : Bool) → undo_all (cond {A = List Change} x [] (record { place = at - n; length = n; what = What.replaced } ∷ []) ++ cs) m ≡ undo_all cs m
    go true = refl
    go false = refl

undo_runs : (at n : ℕ) (t : List ℕ) (cs : List Change) (m : List ℕ) → undo_all (runs at n t ++ cs) m ≡ undo_all cs m
unfolding runs
undo_runs at n [] cs m = undo_change at n cs m
undo_runs at n (b ∷ t) cs m = go (ltb b 128) (undo_runs (suc at) 0 t cs m) (undo_runs (suc at) (suc n) t cs m)
  where
    go : (x : Bool) → undo_all (runs (suc at) 0 t ++ cs) m ≡ undo_all cs m → undo_all (runs (suc at) (suc n) t ++ cs) m ≡ undo_all cs m
        → undo_all (cond x (change What.replaced at n ++ runs (suc at) 0 t) (runs (suc at) (suc n) t) ++ cs) m ≡ undo_all cs m
    go true p q = rw (append_assoc (change What.replaced at n) (runs (suc at) 0 t) cs) (undo_change at n (runs (suc at) 0 t ++ cs) m ∙ p)
    go false p q = q

undo_padding : (q : List ℕ) (at n : ℕ) → length q ≡ at → undo_all (change What.padded (at + n) n) (q ++ replicate n 32) ≡ q
undo_padding q at n e = go (eqb n 0) refl
  where
    go : (x : Bool) → eqb n 0 ≡ x
        → undo_all (cond {A = List Change} x [] (record { place = at + n - n; length = n; what = What.padded } ∷ [])) (q ++ replicate n 32) ≡ q
    go true z = let y = eqb-true n 0 z in rw y (append-nil q)
    go false z = let y : at + n - n ≡ at = omega arith in rw y (take_at q (replicate n 32) at e)

pub undone : (l : List ℕ) → undo_all (changes_of l) (mended l) ≡ questioned l
unfolding changes_of mended
undone l =
    undo_runs 0 0 l (change What.padded (length l + padding l) (padding l)) (questioned l ++ replicate (padding l) 32)
    ∙ undo_padding (questioned l) (length l) (padding l) (questioned-length l)

pub undone-length : (l : List ℕ) → length (undo_all (changes_of l) (mended l)) ≡ length l
undone-length l = ap length (undone l) ∙ questioned-length l

-- a byte that isn't named comes back
pub undone-at : (l : List ℕ) (i : ℕ) → i < length l → named (changes_of l) i ≡ false → get_or (undo_all (changes_of l) (mended l)) i 0 ≡ get_or l i 0
undone-at l i h e =
    let low : get_or l i 0 < 128 = leb-false 128 (get_or l i 0) (sym (named-high l i h) ∙ e) in
    rw (undone l) (questioned-at l i ∙ byte_kept (get_or l i 0) low)
