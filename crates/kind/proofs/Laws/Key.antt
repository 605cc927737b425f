-- Laws of the number of a text.
--     key_more          one byte more of a text's front: the number's next digit
--     Bytes, is_bytes    the numbers of a line are bytes, and a test of that for a text
--     bytes-front       the front of a line passes the test
--     first_byte        so its first is a byte, and the rest are
--     same_key          texts of one length are the same when their numbers are
--     same-pointwise    what `==` says of two texts
-- Assumes nothing.
use Prim.Native.Nat.{ℕ, zero, suc, ◌+◌, ◌*◌, ◌<◌}
use mathlib.Core.Path.{◌≡◌, refl, sym, ap, ◌∙◌}
use mathlib.Core.Bool.{Bool, true, false, ◌&&◌, and-true, and_assoc}
use mathlib.Core.List.{List, [], ◌∷◌}
use native.Mathlib.Nat.{suc_inj, le_of_suc-le-suc, not-suc-le-zero}
use native.Mathlib.Omega.{arith}
use lib.Pointwise.{pointwise}
use lib.Dec.{T, ltb, eqb, ltb→lt, lt→ltb}
use lib.ListN.{length, take, get_or}
use lib.Ieee.Fits.{and_l, and_r, and_i}
use mir.Syntax.{w8}
use mir.Val.{Fits}
use borrow.Author.Tests.{eqb-true, eqb-false, eq-eqb, ne_eqb}
use Rattle.kind.specs.Key.{key_from, key_of}
use Rattle.kind.specs.Kind.{same}

key_from-more : (m : ℕ) (l : List ℕ) (n : ℕ) → n < length l
    → key_from m (take (suc n) l) ≡ key_from m (take n l) * 256 + get_or l n 0
key_from-more m [] n h = absurd (not-suc-le-zero h)
key_from-more m (b ∷ t) zero h = refl
key_from-more m (b ∷ t) (suc n) h = key_from-more (m * 256 + b) t n (le_of_suc-le-suc h)

pub key_more : (l : List ℕ) (n : ℕ) → n < length l → key_of (take (suc n) l) ≡ key_of (take n l) * 256 + get_or l n 0
key_more l n h = key_from-more 0 l n h

abbrev pub Bytes : List ℕ → Type 0
Bytes l = (i : ℕ) → Fits w8 (get_or l i 0)

abbrev pub is_bytes : List ℕ → Bool
is_bytes [] = true
is_bytes (b ∷ t) = ltb b 256 && is_bytes t

pub bytes-front : (n : ℕ) (l : List ℕ) → Bytes l → T (is_bytes (take n l))
bytes-front zero l f = tt
bytes-front (suc n) [] f = tt
bytes-front (suc n) (b ∷ t) f =
    and_i (ltb b 256) (is_bytes (take n t)) (lt→ltb b 256 (omega (arith, f 0))) (bytes-front n t (λ i. f (suc i)))

pub first_byte : (b : ℕ) (t : List ℕ) → T (is_bytes (b ∷ t)) → (b < 256) × T (is_bytes t)
first_byte b t h = (ltb→lt b 256 (and_l (ltb b 256) (is_bytes t) h), and_r (ltb b 256) (is_bytes t) h)

-- numbers are equal when their last digits are, and what stands before them
module _ (m n a b : ℕ) (p : a < 256) (q : b < 256) where
  same-digit : (t u : Bool) → eqb m n ≡ t → eqb a b ≡ u → eqb (m * 256 + a) (n * 256 + b) ≡ t && u
  same-digit true true e f =
      let g = eqb-true m n e in
      let h = eqb-true a b f in
      eq-eqb (m * 256 + a) (n * 256 + b) (omega arith)
  same-digit true false e f =
      ne_eqb (m * 256 + a) (n * 256 + b) (λ z. eqb-false a b f (let g = eqb-true m n e in omega arith))
  same-digit false u e f = ne_eqb (m * 256 + a) (n * 256 + b) (λ z. eqb-false m n e (omega arith))

key_from-same : (m n : ℕ) (s t : List ℕ) → length s ≡ length t → T (is_bytes s) → T (is_bytes t)
    → eqb (key_from m s) (key_from n t) ≡ eqb m n && same s t
key_from-same m n [] [] e p q = sym (and-true (eqb m n))
key_from-same m n [] (b ∷ t) e p q = cc
key_from-same m n (a ∷ s) [] e p q = cc
key_from-same m n (a ∷ s) (b ∷ t) e p q =
    let u = first_byte a s p in
    let v = first_byte b t q in
    key_from-same (m * 256 + a) (n * 256 + b) s t (suc_inj e) u.1 v.1
    ∙ rw (same-digit m n a b u.0 v.0 (eqb m n) (eqb a b) refl refl) (and_assoc (eqb m n) (eqb a b) (same s t))

pub same_key : (s t : List ℕ) → length s ≡ length t → T (is_bytes s) → T (is_bytes t) → same s t ≡ eqb (key_of s) (key_of t)
same_key s t e p q = sym (key_from-same 0 0 s t e p q)

-- the library's word for it
pub same-pointwise : (s t : List ℕ) → same s t ≡ pointwise eqb s t
same-pointwise [] [] = refl
same-pointwise [] (b ∷ t) = refl
same-pointwise (a ∷ s) [] = refl
same-pointwise (a ∷ s) (b ∷ t) = ap (λ r. eqb a b && r) (same-pointwise s t)
