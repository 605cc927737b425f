-- What collecting rows comes to.
--     refused-row                     13 exactly for a number above 2, and the rows are then as they were
--     later_stands, others_stay       a kept row is the one of its number, whatever was there, and the others are as they were
--     handed-set                      a matrix that is handed out has the three rows that are set
--     refused_unset, unset_refused    14 exactly where a row is unset
-- Assumes nothing.
use mathlib.Core.Path.{◌≡◌, refl}
use mathlib.Core.Logic.{◌≢◌}
use Prim.Native.Nat.{ℕ, zero, suc, ◌≤◌, ◌<◌}
use native.Mathlib.Omega.{arith}
use Rattle.std.proofs.Common.{Option, Some, None, Ok, Err}
use Rattle.transformation.specs.declared.record.Transformation.{Transformation}
use Rattle.matrix.specs.declared.Rows.{Rows}
use Rattle.matrix.specs.declared.Matrix.{Matrix}
use Rattle.matrix.specs.Rows.{slot_of, with_row, whole_by, whole, numbers_of_row}

-- ---- collecting
pub refused-row : (m : Rows) (n : ℕ) (r : Transformation)
    → (2 < n → with_row m n r ≡ Err (record { rows = m })) × (n ≤ 2 → numbers_of_row (with_row m n r) ≡ (0, 0, 0))
refused-row m zero r = (λ far. absurd (omega arith), λ near. refl)
refused-row m (suc zero) r = (λ far. absurd (omega arith), λ near. refl)
refused-row m (suc (suc zero)) r = (λ far. absurd (omega arith), λ near. refl)
refused-row m (suc (suc (suc n))) r = (λ far. refl, λ near. absurd (omega arith))

module _ (m k : Rows) (r : Transformation) where
  pub later_stands : (n : ℕ) → with_row m n r ≡ Ok k → slot_of k n ≡ Some r
  later_stands zero e = let i : record { first = Some r; second = m.second; third = m.third } ≡ k = cc in rw (← i) refl
  later_stands (suc zero) e = let i : record { first = m.first; second = Some r; third = m.third } ≡ k = cc in rw (← i) refl
  later_stands (suc (suc zero)) e = let i : record { first = m.first; second = m.second; third = Some r } ≡ k = cc in rw (← i) refl
  later_stands (suc (suc (suc n))) e = cc

  pub others_stay : (n j : ℕ) → with_row m n r ≡ Ok k → j ≢ n → slot_of k j ≡ slot_of m j
  others_stay zero j e other = let i : record { first = Some r; second = m.second; third = m.third } ≡ k = cc in rw (← i) (go j other)
    where
      go : (j : ℕ) → j ≢ 0 → slot_of (record { first = Some r; second = m.second; third = m.third }) j ≡ slot_of m j
      go zero other = absurd (other refl)
      go (suc zero) other = refl
      go (suc (suc zero)) other = refl
      go (suc (suc (suc j))) other = refl
  others_stay (suc zero) j e other = let i : record { first = m.first; second = Some r; third = m.third } ≡ k = cc in rw (← i) (go j other)
    where
      go : (j : ℕ) → j ≢ 1 → slot_of (record { first = m.first; second = Some r; third = m.third }) j ≡ slot_of m j
      go zero other = refl
      go (suc zero) other = absurd (other refl)
      go (suc (suc zero)) other = refl
      go (suc (suc (suc j))) other = refl
  others_stay (suc (suc zero)) j e other = let i : record { first = m.first; second = m.second; third = Some r } ≡ k = cc in rw (← i) (go j other)
    where
      go : (j : ℕ) → j ≢ 2 → slot_of (record { first = m.first; second = m.second; third = Some r }) j ≡ slot_of m j
      go zero other = refl
      go (suc zero) other = refl
      go (suc (suc zero)) other = absurd (other refl)
      go (suc (suc (suc j))) other = refl
  others_stay (suc (suc (suc n))) j e other = cc

-- ---- handing out
pub handed-set : (m : Rows) (w : Matrix) → whole m ≡ Some w
    → (m.first ≡ Some w.first) × (m.second ≡ Some w.second) × (m.third ≡ Some w.third)
handed-set m w e = go m.first m.second m.third e
  where
    go : (f s t : Option Transformation) → whole_by f s t ≡ Some w → (f ≡ Some w.first) × (s ≡ Some w.second) × (t ≡ Some w.third)
    go None s t e = (cc, (cc), cc)
    go (Some a) None t e = (cc, (cc), cc)
    go (Some a) (Some b) None e = (cc, (cc), cc)
    go (Some a) (Some b) (Some c) e =
        let i : record { first = a; second = b; third = c } ≡ w = cc in
        (rw (← i) refl, rw (← i) refl, rw (← i) refl)

pub refused_unset : (m : Rows) → whole m ≡ None → (n : ℕ) × (n ≤ 2) × (slot_of m n ≡ None)
refused_unset m e = go m.first m.second m.third refl refl refl e
  where
    go : (f s t : Option Transformation) → m.first ≡ f → m.second ≡ s → m.third ≡ t → whole_by f s t ≡ None → (n : ℕ) × (n ≤ 2) × (slot_of m n ≡ None)
    go None s t a b c e = (0, omega arith, a)
    go (Some x) None t a b c e = (1, omega arith, b)
    go (Some x) (Some y) None a b c e = (2, omega arith, c)
    go (Some x) (Some y) (Some z) a b c e = absurd (let z : ◌≡◌ {A = ℕ} 0 1 = cc in omega arith)

pub unset_refused : (m : Rows) (n : ℕ) → n ≤ 2 → slot_of m n ≡ None → whole m ≡ None
unset_refused m zero h e = rw e refl
unset_refused m (suc zero) h e = go m.first m.second m.third e
  where
    go : (f s t : Option Transformation) → s ≡ None → whole_by f s t ≡ None
    go None s t e = refl
    go (Some a) s t e = rw e refl
unset_refused m (suc (suc zero)) h e = go m.first m.second m.third e
  where
    go : (f s t : Option Transformation) → t ≡ None → whole_by f s t ≡ None
    go None s t e = refl
    go (Some a) None t e = refl
    go (Some a) (Some b) t e = rw e refl
unset_refused m (suc (suc (suc n))) h e = absurd (omega arith)
