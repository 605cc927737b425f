-- What a double is in so many places.
--     places-value                         by any fraction that the double equals
--     near-places                          a double near M over 10 ^ p gives M back, in as many places or more
--     written_back, written_same           so does the double that was read of M over 10 ^ p, and what is written reads as the same double
--     places-own                           in as many places as it was read with, M comes back as it was
--     places-again                         what is written, read and written again, is the same
--     placed, places_are                   what has so many places has no more than nine, and of nine or less it is the nearest decimal
-- Assumes nothing.
use mathlib.Core.Path.{◌≡◌, refl, sym, ap, ◌∙◌}
use Prim.Native.Nat.{ℕ, ◌-◌, ◌*◌, ◌^◌, ◌≤◌, ◌<◌}
use native.Mathlib.Nat.{le_refl, le_trans, le_of_lt, mul-one, mul_assoc, mul_comm, mul_right_comm, mul_left_comm, mul-le-mul_right, add-sub_of_le, sub_self, zero-lt-suc, one-le-pow, pow-le-pow_right}
use native.Mathlib.Omega.{arith}
use borrow.Author.Tests.{lt-ltb, ltb-true, le-leb, leb-true}
use mathlib.Core.Bool.{Bool, true, false, cond}
use lib.Dec.{leb, ltb, lit≤}
use lib.IntN.{pos}
use lib.Pow.{pow-add, pow_pos}
use lib.Ieee.{Float, nan, inf, fin, up, down, binary64, round, of_int, div}
use lib.Ieee.Exact.{HasValue}
use lib.Ieee.Fits.{down_pos}
use lib.Ieee.Nearest.{closest, closest_same}
use lib.Ieee.Scale.{round_same}
use Rattle.std.specs.Prelude.{Some, None}
use Rattle.real.specs.Double.{double_of, sign_put}
use Rattle.real.specs.Near.{Near, apart}
use Rattle.real.proofs.Laws.Apart.{apart_times}
use Rattle.real.proofs.Laws.Quotient.{double-near}
use Rattle.real.proofs.Laws.Value.{integer-value, quotient_round}
use Rattle.cell.specs.Places.{rounded, within, rounded_to, places_of}
use Rattle.cell.specs.declared.places.Rounded.{Rounded}
use Rattle.cell.proofs.Laws.Closest.{closest_is}

pub within-few : (s : Bool) (n : ℕ) → n < 10 ^ 10 → within s n ≡ Some (rounded s n)
unfolding within
within-few s n h = rw (lt-ltb n (10 ^ 10) h) refl

within-tells : (s t : Bool) (n k : ℕ) → within s n ≡ Some (rounded t k) → (s ≡ t) × (n ≡ k) × (k < 10 ^ 10)
unfolding within
within-tells s t n k e = go (ltb n (10 ^ 10)) refl e
  where
    go : (b : Bool) → ltb n (10 ^ 10) ≡ b → cond b (Some (rounded s n)) None ≡ Some (rounded t k) → (s ≡ t) × (n ≡ k) × (k < 10 ^ 10)
    go true l e =
        let both : rounded s n ≡ rounded t k = cc in
        let same = ap (λ (r : Rounded). r.digits) both in
        (ap (λ (r : Rounded). r.minus) both, same, rw same at (ltb-true n (10 ^ 10) l))
    go false l e = absurd (let z : ◌≡◌ {A = ℕ} 0 1 = cc in omega arith)

pub places-value : (q : ℕ) (x : Float) (s : Bool) (a c : ℕ) → 0 < c → HasValue x s a c → rounded_to q x ≡ within s (closest (a * 10 ^ q) c)
unfolding rounded_to
places-value q (fin t m e) s a c C v =
    let same : m * up e * 10 ^ q * c ≡ a * 10 ^ q * down e = rw (mul_right_comm (m * up e) (10 ^ q) c, v.1) (mul_right_comm a (down e) (10 ^ q)) in
    rw (v.0, closest_same (m * up e * 10 ^ q) (down e) (a * 10 ^ q) c (down_pos e) C same) refl
places-value q nan s a c C v = elim v [ ]
places-value q (inf _) s a c C v = elim v [ ]

-- |v - N t| 2 ^ 53 ≤ N t, and N is far below 2 ^ 52
half-off : (v n t : ℕ) → 0 < t → n < 10 ^ 10 → apart v (n * t) * 2 ^ 53 ≤ n * t → apart (n * t) v * 2 < t
half-off v n t T few near =
    let most : n * t ≤ 10 ^ 10 * t = mul-le-mul_right t (le_of_lt few) in
    omega arith

split_power : (p q : ℕ) → p ≤ q → 10 ^ p * 10 ^ (q - p) ≡ 10 ^ q
split_power p q h = rw (← pow-add 10 p (q - p), add-sub_of_le h) refl

pub near-places : (s : Bool) (m p q : ℕ) (x : Float) → Near s m p x → p ≤ q → m * 10 ^ (q - p) < 10 ^ 10
    → rounded_to q x ≡ Some (rounded s (m * 10 ^ (q - p)))
near-places s m p q x near h few =
    let c = 10 ^ (q - p) in
    let t = 2 ^ 82 in
    let z = near.parts in
    let scaled : apart (z * 10 ^ q) (m * c * t) * 2 ^ 53 ≤ m * c * t =
    rw (mul_assoc z (10 ^ p) c, split_power p q h, mul_right_comm m t c) at (apart_times c (z * 10 ^ p) (m * t) (2 ^ 53) (m * t) near.close) in
    let is = closest_is (z * 10 ^ q) t (m * c) (pow_pos 82) (half-off (z * 10 ^ q) (m * c) t (pow_pos 82) few scaled) in
    places-value q x s z t (pow_pos 82) near.value ∙ ap (within s) is ∙ within-few s (m * c) few

-- ---- what was read of M over 10 ^ p
module _ (s : Bool) (m p q : ℕ) (few : m < 10 ^ 10) (short : p ≤ q) (long : q ≤ 9) where
  pub written_back : m * 10 ^ (q - p) < 10 ^ 10 → rounded_to q (double_of s m p) ≡ Some (rounded s (m * 10 ^ (q - p)))
  written_back fit = near-places s m p q (double_of s m p) (double-near s m p few (le_trans short long)) short fit

-- the quotient is one rounding
ten_pos : (p : ℕ) → 0 < 10 ^ p
ten_pos p = one-le-pow p 10 (zero-lt-suc 9)

quotient_is : (m p : ℕ) → m < 10 ^ 10 → p ≤ 9 → div binary64 (of_int binary64 (pos m)) (of_int binary64 (pos (10 ^ p))) ≡ round binary64 false m (10 ^ p)
quotient_is m p few short =
    let x = integer-value (pos m) (le_trans (le_of_lt few) (lit≤ tt)) in
    let y = integer-value (pos (10 ^ p)) (le_trans (pow-le-pow_right (zero-lt-suc 9) short) (lit≤ tt)) in
    quotient_round binary64 (of_int binary64 (pos m)) (of_int binary64 (pos (10 ^ p))) false m (10 ^ p) (ten_pos p) x y

pub written_same : (s : Bool) (m p q : ℕ) → m < 10 ^ 10 → p ≤ q → q ≤ 9 → m * 10 ^ (q - p) < 10 ^ 10
    → double_of s (m * 10 ^ (q - p)) q ≡ double_of s m p
unfolding double_of
written_same s m p q few short long fit =
    let n = m * 10 ^ (q - p) in
    let same : n * 10 ^ p ≡ m * 10 ^ q = rw (← split_power p q short) (simp (mul_assoc, mul_comm, mul_left_comm)) in
    let one = quotient_is n q fit long in
    let two = quotient_is m p few (le_trans short long) in
    ap (sign_put s) (one ∙ round_same binary64 false n (10 ^ q) m (10 ^ p) (ten_pos q) (ten_pos p) same ∙ sym two)

pub places-own : (s : Bool) (m p : ℕ) → m < 10 ^ 10 → p ≤ 9 → rounded_to p (double_of s m p) ≡ Some (rounded s m)
places-own s m p few long =
    let none : m * 10 ^ (p - p) ≡ m = rw (sub_self p) (mul-one m) in
    rw none at (written_back s m p p few (le_refl p) long (rw none few))

-- ---- written, read and written again
pub places-few : (q : ℕ) (x : Float) (s : Bool) (n : ℕ) → rounded_to q x ≡ Some (rounded s n) → n < 10 ^ 10
unfolding rounded_to
places-few q nan s n e = absurd (let z : ◌≡◌ {A = ℕ} 0 1 = cc in omega arith)
places-few q (inf t) s n e = absurd (let z : ◌≡◌ {A = ℕ} 0 1 = cc in omega arith)
places-few q (fin t m e') s n e = (within-tells t s (closest (m * up e' * 10 ^ q) (down e')) n e).2

pub places-again : (q : ℕ) (x : Float) (s : Bool) (n : ℕ) → q ≤ 9 → rounded_to q x ≡ Some (rounded s n) → rounded_to q (double_of s n q) ≡ Some (rounded s n)
places-again q x s n long e = places-own s n q (places-few q x s n e) long

-- ---- of any number of places
pub placed : (q : ℕ) (x : Float) (s : Bool) (n : ℕ) → places_of q x ≡ Some (rounded s n) → (q ≤ 9) × (rounded_to q x ≡ Some (rounded s n))
unfolding places_of
placed q x s n e = go (leb q 9) refl e
  where
    go : (b : Bool) → leb q 9 ≡ b → cond b (rounded_to q x) None ≡ Some (rounded s n) → (q ≤ 9) × (rounded_to q x ≡ Some (rounded s n))
    go true l e = (leb-true q 9 l, e)
    go false l e = absurd (let z : ◌≡◌ {A = ℕ} 0 1 = cc in omega arith)

pub places_are : (q : ℕ) (x : Float) → q ≤ 9 → places_of q x ≡ rounded_to q x
unfolding places_of
places_are q x h = rw (le-leb q 9 h) refl
