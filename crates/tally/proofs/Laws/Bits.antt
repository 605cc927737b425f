-- Which numbers differ, as bits.
--     unlike-byte                       what the code makes of a test
--     differing-next, differing-end     one place more, and none
--     differing_lt                      as many bits as places
--     Upto, turn-room, turn-again       a turn of the loop over the places
--     bit_differs                       bit n is set exactly when the n-th numbers differ
-- Assumes nothing.
use Prim.Native.Nat.{ℕ, zero, suc, ◌+◌, ◌*◌, ◌-◌, ◌%◌, ◌^◌, ◌≤◌, ◌<◌}
use mathlib.Core.Path.{◌≡◌, refl, sym, ap}
use mathlib.Core.Logic.{◌↔◌, ◌≢◌}
use mathlib.Core.Bool.{Bool, true, false, cond, not}
use mathlib.Core.List.{List, [], ◌∷◌}
use native.Mathlib.Nat.{pow-suc, pow-le-pow_right}
use native.Mathlib.Numerals.{add-one}
use native.Mathlib.Omega.{arith}
use mir.Val.{bool_byte}
use borrow.Author.Tests.{eqb-true, eqb-false}
use lib.Dec.{eqb, lit<}
use lib.ListN.{length, drop, get_or, drop_of_length-le}
use lib.Seq.{drop-cons}
use Rattle.tally.specs.Compare.{unlike, differing, bit_at}

unlike-le : (a b : ℕ) → unlike a b ≤ 1
unlike-le a b = go (eqb a b)
  where
    go : (c : Bool) → cond c 0 1 ≤ 1
    go true = omega arith
    go false = omega arith

pub unlike-byte : (a b : ℕ) → bool_byte (not (eqb a b)) ≡ unlike a b
unlike-byte a b = go (eqb a b)
  where
    go : (c : Bool) → bool_byte (not c) ≡ cond c 0 1
    go true = refl
    go false = refl

-- ---- place by place
pub differing-next : (s t : List ℕ) (i : ℕ) → i < length s → i < length t
    → differing (drop i s) (drop i t) ≡ unlike (get_or s i 0) (get_or t i 0) + 2 * differing (drop (i + 1) s) (drop (i + 1) t)
unfolding differing
differing-next s t i h k = rw (drop-cons s i 0, drop-cons t i 0, add-one i) refl

pub differing-end : (s t : List ℕ) (i : ℕ) → length s ≤ i → 0 ≡ differing (drop i s) (drop i t)
unfolding differing
differing-end s t i h = rw (drop_of_length-le s h) refl

pub differing_lt : (s t : List ℕ) → differing s t < 2 ^ length s
unfolding differing
differing_lt [] t = omega arith
differing_lt (a ∷ s) [] =
    let h = differing_lt s [] in
    rw (pow-suc 2 (length s)) (omega arith)
differing_lt (a ∷ s) (b ∷ t) =
    let u = unlike-le a b in
    let h = differing_lt s t in
    rw (pow-suc 2 (length s)) (omega arith)

-- ---- a turn of the loop, which goes from the last place to the first
abbrev pub Upto : List ℕ → List ℕ → ℕ → ℕ → Type 0
Upto s t i bits = (i ≤ length t) × (bits ≡ differing (drop i s) (drop i t)) × (bits < 2 ^ (length t - i))

module _ (s t : List ℕ) (i bits : ℕ) (e : length s ≡ length t) (few : length t < 64) (some : 0 < i) (v : Upto s t i bits) where
  bits_few : bits < 2 ^ 63
  bits_few =
      let p : 2 ^ (length t - i) ≤ 2 ^ 63 = pow-le-pow_right (lit< tt) {i = length t - i} {j = 63} (omega arith) in
      omega arith

  pub turn-room : (u : ℕ) → u ≡ unlike (get_or s (i - 1) 0) (get_or t (i - 1) 0) → u + 2 * bits < 2 ^ 64
  turn-room u h =
      let b = bits_few in
      let one = unlike-le (get_or s (i - 1) 0) (get_or t (i - 1) 0) in
      omega arith

  pub turn-again : (u : ℕ) → u ≡ unlike (get_or s (i - 1) 0) (get_or t (i - 1) 0) → Upto s t (i - 1) (u + 2 * bits)
  turn-again u h =
      let up : i - 1 + 1 ≡ i = omega arith in
      let next = differing-next s t (i - 1) (omega arith) (omega arith) in
      let one = unlike-le (get_or s (i - 1) 0) (get_or t (i - 1) 0) in
      let left : length t - (i - 1) ≡ suc (length t - i) = omega arith in (
        omega arith,
        rw (h, v.1) (sym (rw up at next)),
        rw (left, pow-suc 2 (length t - i)) (omega arith),
      )

-- ---- the bits
bit_here : (a b d : ℕ) → (bit_at 0 (unlike a b + 2 * d) ≡ 1) ↔ (a ≢ b)
unfolding bit_at
bit_here a b d = go (eqb a b) refl
  where
    go : (c : Bool) → eqb a b ≡ c → ((cond c 0 1 + 2 * d) % 2 ≡ 1) ↔ (a ≢ b)
    go true e = (λ h. absurd (omega arith), λ n. absurd (n (eqb-true a b e)))
    go false e = (λ h. eqb-false a b e, λ n. omega arith)

bit_later : (n a b d : ℕ) → bit_at (suc n) (unlike a b + 2 * d) ≡ bit_at n d
unfolding bit_at
bit_later n a b d = ap (bit_at n) (let u = unlike-le a b in omega arith)

pub bit_differs : (s t : List ℕ) (n : ℕ) → length s ≡ length t → n < length s
    → (bit_at n (differing s t) ≡ 1) ↔ (get_or s n 0 ≢ get_or t n 0)
unfolding differing
bit_differs [] t n e h = absurd (omega arith)
bit_differs (a ∷ s) [] n e h = absurd (omega arith)
bit_differs (a ∷ s) (b ∷ t) zero e h = bit_here a b (differing s t)
bit_differs (a ∷ s) (b ∷ t) (suc n) e h =
    rw (bit_later n a b (differing s t)) (bit_differs s t n (omega arith) (omega arith))
