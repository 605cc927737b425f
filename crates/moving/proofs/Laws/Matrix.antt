-- Laws of the entries that collect rows and move a position.
--     collects_core                                            the lent rows are those that `with_row` of the crate `matrix` gives
--     collects-one, applies-one                                what an entry may answer is one number, with one content of all that is lent
-- Assumes nothing.
use mathlib.Core.Path.{◌≡◌, refl, sym, ◌∙◌}
use Prim.Native.Nat.{ℕ, zero, suc, ◌+◌, ◌*◌, ◌≤◌, ◌<◌}
use mathlib.Core.List.{List}
use mathlib.Core.Logic.{◌≢◌}
use native.Mathlib.Omega.{arith}
use borrow.Author.Tests.{le-ltb}
use lib.ListN.{length, get_or, set, length-set}
use lib.Seq.{get_or-set_same, get_or-set_other}
use lib.Ieee.{Float, nan}
use Rattle.std.specs.Prelude.{Option, Some, Ok}
use Rattle.transformation.specs.declared.record.Transformation.{Transformation}
use Rattle.atom.specs.declared.record.Position.{Position}
use Rattle.matrix.specs.Rows.{with_row}
use Rattle.matrix.specs.declared.Matrix.{Matrix}
use Rattle.moving.specs.Matrix.{slot_at, row_at, rows_in, four_put, Collects, Applies}

-- ---- what is lent afterwards is what is collected
module _ (rows : List Float) (i : ℕ) (r : Transformation) where
  abbrev one : List Float
  one = set rows i r.a

  abbrev two : List Float
  two = set one (i + 1) r.b

  abbrev three : List Float
  three = set two (i + 2) r.c

  four-length : length (four_put rows i r) ≡ length rows
  four-length = length-set three (i + 3) r.d ∙ length-set two (i + 2) r.c ∙ length-set one (i + 1) r.b ∙ length-set rows i r.a

  four-other : (j : ℕ) → j ≢ i → j ≢ i + 1 → j ≢ i + 2 → j ≢ i + 3 → get_or (four_put rows i r) j nan ≡ get_or rows j nan
  four-other j a b c d =
      get_or-set_other three (i + 3) j r.d nan d
      ∙ get_or-set_other two (i + 2) j r.c nan c
      ∙ get_or-set_other one (i + 1) j r.b nan b
      ∙ get_or-set_other rows i j r.a nan a

  four-row : i + 4 ≤ length rows → row_at (four_put rows i r) i ≡ r
  four-row h =
      let l₁ = length-set rows i r.a in
      let l₂ = length-set one (i + 1) r.b in
      let l₃ = length-set two (i + 2) r.c in
      let a : get_or (four_put rows i r) i nan ≡ r.a =
      get_or-set_other three (i + 3) i r.d nan (λ e. omega arith)
      ∙ get_or-set_other two (i + 2) i r.c nan (λ e. omega arith)
      ∙ get_or-set_other one (i + 1) i r.b nan (λ e. omega arith)
      ∙ get_or-set_same rows i r.a nan (omega arith) in
      let b : get_or (four_put rows i r) (i + 1) nan ≡ r.b =
      get_or-set_other three (i + 3) (i + 1) r.d nan (λ e. omega arith)
      ∙ get_or-set_other two (i + 2) (i + 1) r.c nan (λ e. omega arith)
      ∙ get_or-set_same one (i + 1) r.b nan (omega arith) in
      let c : get_or (four_put rows i r) (i + 2) nan ≡ r.c =
      get_or-set_other three (i + 3) (i + 2) r.d nan (λ e. omega arith) ∙ get_or-set_same two (i + 2) r.c nan (omega arith) in
      let d : get_or (four_put rows i r) (i + 3) nan ≡ r.d = get_or-set_same three (i + 3) r.d nan (omega arith) in
      rw (a, b, c, d) refl

module _ (rows : List Float) (marks : List ℕ) (n : ℕ) (r : Transformation) where
  abbrev slot_put : ℕ → Option Transformation
  slot_put k = slot_at (four_put rows (4 * n) r) (set marks n 1) k

  slot_put_lem : 4 * n + 4 ≤ length rows → n < length marks → slot_put n ≡ Some r
  slot_put_lem h i =
      rw (get_or-set_same marks n 1 0 i, four-length rows (4 * n) r, le-ltb (length rows) (4 * n + 4) h, four-row rows (4 * n) r h) refl

  slot_stays : (k : ℕ) → k ≢ n → slot_put k ≡ slot_at rows marks k
  slot_stays k h =
      rw (
        get_or-set_other marks n k 1 0 h,
        four-length rows (4 * n) r,
        four-other rows (4 * n) r (4 * k) (λ e. h (omega arith)) (λ e. absurd (omega arith)) (λ e. absurd (omega arith)) (λ e. absurd (omega arith)),
        four-other rows (4 * n) r (4 * k + 1) (λ e. absurd (omega arith)) (λ e. h (omega arith)) (λ e. absurd (omega arith)) (λ e. absurd (omega arith)),
        four-other rows (4 * n) r (4 * k + 2) (λ e. absurd (omega arith)) (λ e. absurd (omega arith)) (λ e. h (omega arith)) (λ e. absurd (omega arith)),
        four-other rows (4 * n) r (4 * k + 3) (λ e. absurd (omega arith)) (λ e. absurd (omega arith)) (λ e. absurd (omega arith)) (λ e. h (omega arith)),
      )
      refl

pub collects_core : (rows : List Float) (marks : List ℕ) (n : ℕ) (r : Transformation) → n ≤ 2 → 12 ≤ length rows → 3 ≤ length marks
    → Ok (rows_in (four_put rows (4 * n) r) (set marks n 1)) ≡ with_row (rows_in rows marks) n r
collects_core rows marks zero r h i j =
    rw (slot_put_lem rows marks 0 r (omega arith) (omega arith), slot_stays rows marks 0 r 1 (λ e. omega arith), slot_stays rows marks 0 r 2 (λ e. omega arith)) refl
collects_core rows marks (suc zero) r h i j =
    rw (slot_put_lem rows marks 1 r (omega arith) (omega arith), slot_stays rows marks 1 r 0 (λ e. omega arith), slot_stays rows marks 1 r 2 (λ e. omega arith)) refl
collects_core rows marks (suc (suc zero)) r h i j =
    rw (slot_put_lem rows marks 2 r (omega arith) (omega arith), slot_stays rows marks 2 r 0 (λ e. omega arith), slot_stays rows marks 2 r 1 (λ e. omega arith)) refl
collects_core rows marks (suc (suc (suc n))) r h i j = absurd (omega arith)

-- ---- nothing is left free
module _ {rows : List Float} {marks : List ℕ} {n : ℕ} {r : Transformation} {q s : ℕ} {a b : List Float} {c d : List ℕ} where
  pub collects-one : Collects rows marks n r q a c → Collects rows marks n r s b d → (q ≡ s) × (a ≡ b) × (c ≡ d)
  collects-one e f = (e.answers ∙ sym f.answers, e.leaves_rows ∙ sym f.leaves_rows, e.leaves_marks ∙ sym f.leaves_marks)

module _ {g : Option Matrix} {p : Position} {out : List Float} {q r : ℕ} {a b : List Float} where
  pub applies-one : Applies g p out q a → Applies g p out r b → (q ≡ r) × (a ≡ b)
  applies-one e f = (e.answers ∙ sym f.answers, e.leaves ∙ sym f.leaves)
