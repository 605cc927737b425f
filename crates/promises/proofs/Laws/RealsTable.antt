-- No other entry of a table can name a real entry's columns: a test that each kind's table passes.
--     clear              the test
--     real-chosen        of R, in a table that passes: it alone can name its columns, and its default is finite
--     factor-chosen      of one of ANISOU's six: the same, and its columns are at most seven
-- Assumes nothing.
use Prim.Native.Nat.{ℕ, ◌-◌, ◌<◌}
use mathlib.Core.Path.{◌≡◌, refl}
use mathlib.Core.Logic.{◌⊎◌, inl, inr, ⊎_elim}
use mathlib.Core.Bool.{Bool, true, false, cond, ◌&&◌}
use mathlib.Core.List.Memᴰ
use mathlib.Core.List.{List, [], ◌∷◌, Memᴰ}
use native.Mathlib.Omega.{arith}
use borrow.Author.Tests.{eqb-true}
use lib.ListN.{length}
use lib.Dec.{leb, eqb}
use lib.Ieee.{Float}
use lib.Ieee.Scale.{finite}
use Rattle.number.proofs.Laws.Choice.{and_left, and_right}
use Rattle.line.specs.declared.columns.Columns.{Columns}
use Rattle.field.specs.Table.{Entry}
use Rattle.field.specs.Table.Entry.{u, i, r, t, c, c?, a, u-rest, x, t_within, t-rest, t-end, charge, known, given, unwritten, triples}
use Rattle.promises.proofs.Laws.RealsNamed.{may, chosen}

-- ---- a table that passes
-- a real entry alone may name its columns; its default is finite, or its columns are narrow
abbrev clear_of : List Entry → Entry → Bool
clear_of es (u at) = true
clear_of es (i at) = true
clear_of es (r at default) = eqb (length (chosen (may at) es)) 1 && (may at (r at default) && finite default)
clear_of es (t at) = true
clear_of es (c at) = true
clear_of es (c? at) = true
clear_of es (a at) = eqb (length (chosen (may at) es)) 1 && (may at (a at) && leb (at.end - at.start) 7)
clear_of es (u-rest start) = true
clear_of es (x at) = true
clear_of es (t_within at) = true
clear_of es (t-rest start) = true
clear_of es (t-end start) = true
clear_of es (charge at) = true
clear_of es (known at) = true
clear_of es (given column) = true
clear_of es (unwritten column) = true
clear_of es (triples start) = true

abbrev all_clear : List Entry → List Entry → Bool
all_clear es [] = true
all_clear es (e ∷ rest) = clear_of es e && all_clear es rest

abbrev pub clear : List Entry → Bool
clear es = all_clear es es

-- an entry of the list that is chosen, where one is, is all that is chosen
module _ (test : Entry → Bool) where
  none-chosen : (es : List Entry) → length (chosen test es) ≡ 0 → chosen test es ≡ []
  none-chosen es e = go (chosen test es) e
    where
      go : (xs : List Entry) → length xs ≡ 0 → xs ≡ []
      go [] e = refl
      go (y ∷ ys) e = absurd (omega arith)

  some-chosen : (es : List Entry) (e : Entry) → Memᴰ e es → test e ≡ true → 0 < length (chosen test es)
  some-chosen [] e m chose = absurd (Memᴰ.not-nil m)
  some-chosen (y ∷ ys) e m chose = go (test y) refl (Memᴰ.cases_cons m) (λ later. some-chosen ys e later chose)
    where
      go : (b : Bool) → test y ≡ b → (e ≡ y) ⊎ Memᴰ e ys → (Memᴰ e ys → 0 < length (chosen test ys))
          → 0 < length (cond b (y ∷ chosen test ys) (chosen test ys))
      go true h k on = omega arith
      go false h (inl same) on = absurd (let z : true ≡ false = cc in let w : ◌≡◌ {A = ℕ} 0 1 = cc in omega arith)
      go false h (inr later) on = on later

  one-chosen : (es : List Entry) (e : Entry) → Memᴰ e es → test e ≡ true → length (chosen test es) ≡ 1 → chosen test es ≡ e ∷ []
  one-chosen [] e m chose one = absurd (Memᴰ.not-nil m)
  one-chosen (y ∷ ys) e m chose one = go (test y) refl (Memᴰ.cases_cons m) one (λ later alone. one-chosen ys e later chose alone)
    where
      go : (b : Bool) → test y ≡ b → (e ≡ y) ⊎ Memᴰ e ys → length (cond b (y ∷ chosen test ys) (chosen test ys)) ≡ 1
          → (Memᴰ e ys → length (chosen test ys) ≡ 1 → chosen test ys ≡ e ∷ []) → cond b (y ∷ chosen test ys) (chosen test ys) ≡ e ∷ []
      go true h (inl same) one on = rw (none-chosen ys (omega arith), same) refl
      go true h (inr later) one on = absurd (omega (arith, some-chosen ys e later chose))
      go false h (inl same) one on = let z : true ≡ false = cc in cc
      go false h (inr later) one on = on later one

module _ (es : List Entry) (h : clear es ≡ true) where
  entry_clear : (rest : List Entry) → all_clear es rest ≡ true → (e : Entry) → Memᴰ e rest → clear_of es e ≡ true
  entry_clear [] all e m = absurd (Memᴰ.not-nil m)
  entry_clear (y ∷ rest) all e m =
      ⊎_elim
      (λ same. rw same (and_left (clear_of es y) (all_clear es rest) all))
      (entry_clear rest (and_right (clear_of es y) (all_clear es rest) all) e)
      (Memᴰ.cases_cons m)

  pub real-chosen : (at : Columns) (default : Float) → Memᴰ (r at default) es
      → (chosen (may at) es ≡ r at default ∷ []) × (finite default ≡ true)
  real-chosen at default m =
      let e = entry_clear es h (r at default) m in
      let one = and_left (eqb (length (chosen (may at) es)) 1) (may at (r at default) && finite default) e in
      let rest = and_right (eqb (length (chosen (may at) es)) 1) (may at (r at default) && finite default) e in (
        one-chosen (may at) es (r at default) m (and_left (may at (r at default)) (finite default) rest) (eqb-true _ 1 one),
        and_right (may at (r at default)) (finite default) rest,
      )

  pub factor-chosen : (at : Columns) → Memᴰ (a at) es → (chosen (may at) es ≡ a at ∷ []) × (leb (at.end - at.start) 7 ≡ true)
  factor-chosen at m =
      let e = entry_clear es h (a at) m in
      let small = leb (at.end - at.start) 7 in
      let one = and_left (eqb (length (chosen (may at) es)) 1) (may at (a at) && small) e in
      let rest = and_right (eqb (length (chosen (may at) es)) 1) (may at (a at) && small) e in (
        one-chosen (may at) es (a at) m (and_left (may at (a at)) small rest) (eqb-true _ 1 one),
        and_right (may at (a at)) small rest,
      )
