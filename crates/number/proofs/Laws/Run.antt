-- Laws of the digits at the front of a text that keep the number below 2^64.
--     run_joins, run_stops, run_ends     one byte further, and the end, for the loop
--     joins-low, -high, -full, -on       whether that byte joins, by the loop's own tests
--     run_front                          what a run is: digits up to a byte that doesn't join
--     run_full, run_short                what it tells of the text, as long as the text or shorter
--     digits-none, -short, -full         one or more digits and nothing else, by the run
-- Assumes nothing.
use Prim.Native.Nat.{ℕ, suc, ◌+◌, ◌-◌, ◌^◌, ◌≤◌, ◌<◌, ◌/◌}
use mathlib.Core.Path.{◌≡◌, refl, sym, ap, ◌∙◌}
use mathlib.Core.Bool.{Bool, true, false, cond, ◌&&◌}
use mathlib.Core.List.{List, [], ◌∷◌}
use native.Mathlib.Nat.{zero-add}
use native.Mathlib.Numerals.{add-one}
use native.Mathlib.Omega.{arith}
use borrow.Author.Tests.{lt-ltb, le-ltb, le-leb, lt-leb, ltb-true}
use lib.ListN.{length, drop, take, get_or, drop_of_length-le}
use lib.Seq.{drop-cons, take_all, split_at}
use lib.Dec.{leb, ltb}
use Rattle.std.specs.Prelude.{Some, None}
use Rattle.number.specs.Whole.{digit, digits, some_digits, joined, joins, value_from, value_of, run_of, digits_of}
use Rattle.number.specs.declared.whole.Run.{Run}
use Rattle.number.proofs.Laws.Choice.{and_left, and_right, and_both, choose, pass, clash}
use Rattle.number.proofs.Laws.Digits.{digits-at, value_ge, value-append}

-- ---- one byte further
module _ (t : List ℕ) (m i : ℕ) (h : i < length t) where
  pub run_joins : joins m (get_or t i 0) ≡ true → run_of m i (drop i t) ≡ run_of (joined m (get_or t i 0)) (i + 1) (drop (i + 1) t)
  unfolding run_of
  run_joins e = rw (drop-cons t i 0, add-one i) (rw e refl)

  pub run_stops : joins m (get_or t i 0) ≡ false → run_of m i (drop i t) ≡ record { value = m; count = i }
  unfolding run_of
  run_stops e = rw (drop-cons t i 0) (rw e refl)

pub run_ends : (t : List ℕ) (m i : ℕ) → length t ≤ i → run_of m i (drop i t) ≡ record { value = m; count = i }
unfolding run_of
run_ends t m i h = rw (drop_of_length-le t h) refl

-- ---- whether a byte joins, from the tests that the loop makes
pub joins-low : (m b : ℕ) → b < 48 → joins m b ≡ false
unfolding joins digit
joins-low m b h = rw (lt-leb 48 b h) refl

pub joins-high : (m b : ℕ) → 57 < b → joins m b ≡ false
unfolding joins digit
joins-high m b h = rw (lt-leb b 57 h) (no-right (leb 48 b) (ltb (joined m b) (2 ^ 64)))
  where
    no-right : (x y : Bool) → (x && false) && y ≡ false
    no-right true y = refl
    no-right false y = refl

pub joins-full : (m b : ℕ) → (18446744073709551615 - (b - 48)) / 10 < m → joins m b ≡ false
unfolding joins
joins-full m b h = rw (le-ltb (joined m b) (2 ^ 64) (omega arith)) (no-right (digit b))
  where
    no-right : (x : Bool) → x && false ≡ false
    no-right true = refl
    no-right false = refl

pub joins-on : (m b : ℕ) → 48 ≤ b → b ≤ 57 → m ≤ (18446744073709551615 - (b - 48)) / 10 → joins m b ≡ true
unfolding joins digit
joins-on m b l h f = rw (le-leb 48 b l, le-leb b 57 h, lt-ltb (joined m b) (2 ^ 64) (omega arith)) refl

-- ---- the digits at the front
-- the first k bytes are digits that say v behind m, and the byte behind them doesn't join
pub record Front (m : ℕ) (t : List ℕ) (v k : ℕ) : Type 0 where
  pub within : k ≤ length t
  pub each : digits (take k t) ≡ true
  pub value : v ≡ value_from m (take k t)
  pub fits : m < 2 ^ 64 → v < 2 ^ 64
  pub stops : k < length t → joins v (get_or t k 0) ≡ false

-- the same of a run before which i bytes were read
abbrev FrontFrom : ℕ → ℕ → List ℕ → Run → Type 0
FrontFrom m i t r = (k : ℕ) × Front m t r.value k × (r.count ≡ i + k)

front-none : (m : ℕ) (t : List ℕ) → (0 < length t → joins m (get_or t 0 0) ≡ false) → Front m t m 0
unfolding digits value_from
front-none m t stops = record { within = omega arith; each = refl; value = refl; fits = λ l. l; stops = stops }

front-from : (t : List ℕ) (m i : ℕ) → FrontFrom m i t (run_of m i t)
unfolding run_of digits value_from joins
front-from [] m i = (0, front-none m [] (λ h. absurd (omega arith)), omega arith)
front-from (b ∷ t) m i = go (joins m b) refl (front-from t (joined m b) (i + 1))
  where
    go : (j : Bool) → joins m b ≡ j → FrontFrom (joined m b) (i + 1) t (run_of (joined m b) (i + 1) t)
        → FrontFrom m i (b ∷ t) (cond j (run_of (joined m b) (i + 1) t) (record { value = m; count = i }))
    go false e h = (0, front-none m (b ∷ t) (λ h. e), omega arith)
    go true e (k, f, c) = (
      suc k,
      record {
        within = omega arith;
        each = and_both (and_left (digit b) (ltb (joined m b) (2 ^ 64)) e) f.each;
        value = f.value;
        fits = λ l. f.fits (ltb-true (joined m b) (2 ^ 64) (and_right (digit b) (ltb (joined m b) (2 ^ 64)) e));
        stops = λ h. f.stops (omega arith);
      },
      omega arith,
    )

module _ (t : List ℕ) (m : ℕ) (r : Run) (e : r ≡ run_of m 0 t) where
  pub run_front : Front m t r.value r.count
  run_front = let f = front-from t m 0 in rw (e, f.2, zero-add f.0) f.1

  pub run_full : m < 2 ^ 64 → length t ≤ r.count → (digits t ≡ true) × (value_from m t < 2 ^ 64) × (r.value ≡ value_from m t)
  run_full l h =
      let f = run_front in
      let all = take_all r.count t h in
      let v = rw all at f.value in
      (rw all at f.each, rw v at (f.fits l), v)

  -- the byte behind the run is a digit, and with it the number is no more than with all of them
  pub run_short : r.count < length t → digits t ≡ true → value_from m t < 2 ^ 64 → ⊥
  unfolding joins value_from
  run_short h d v =
      let f = run_front in
      let b = get_or t r.count 0 in
      let u = drop (suc r.count) t in
      let all = split_at t r.count 0 h in
      let said = value-append (take r.count t) (b ∷ u) m in
      let q = ap (value_from m) all ∙ said ∙ ap (λ (n : ℕ). value_from n (b ∷ u)) (sym f.value) in
      let less : joined r.value b < 2 ^ 64 = omega (arith, value_ge u (joined r.value b)) in
      clash (and_both (digits-at t r.count h d) (lt-ltb (joined r.value b) (2 ^ 64) less)) (f.stops h)

-- ---- one or more digits and nothing else
pub digits-none : (t : List ℕ) → length t ≡ 0 → None ≡ digits_of t
unfolding digits_of
digits-none [] e = refl
digits-none (b ∷ t) e = absurd (omega arith)

module _ (t : List ℕ) (r : Run) (e : r ≡ run_of 0 0 t) where
  pub digits-short : r.count < length t → None ≡ digits_of t
  unfolding digits_of
  digits-short h =
      let some = some_digits t in
      let small = ltb (value_of t) (2 ^ 64) in
      pass (some && small) (Some (value_of t)) None
      (λ y.
      run_short t 0 r e h (and_right (ltb 0 (length t)) (digits t) (and_left some small y))
      (ltb-true (value_of t) (2 ^ 64) (and_right some small y)))

  pub digits-full : 0 < length t → length t ≤ r.count → Some r.value ≡ digits_of t
  unfolding digits_of
  digits-full some h =
      let a = run_full t 0 r e (omega arith) h in
      let yes = and_both (and_both (lt-ltb 0 (length t) some) a.0) (lt-ltb (value_of t) (2 ^ 64) a.1) in
      ap Some a.2 ∙ choose (Some (value_of t)) None yes
