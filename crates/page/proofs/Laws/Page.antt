-- Laws of putting bytes on a page.
--     put-append, put_then      bytes put behind bytes
--     put-at, put_count         where the next byte goes, and that from 0 on it is the number of bytes put
--     put_measure               it is the same whatever the page's bytes
--     put-length                a page keeps its length
--     put-fits, put_front       what fits replaces as many bytes, and the others stay
--     put_over                  what doesn't fit is cut off at the end of the bytes
--     put_on, put_past          one byte, by the code's test
--     put_step, -next, -done    a loop's turn, and its end
-- Assumes nothing.
use Prim.Native.Nat.{ℕ, suc, ◌+◌, ◌-◌, ◌^◌, ◌≤◌, ◌<◌, min}
use mathlib.Core.Path.{◌≡◌, refl, sym, ap, ◌∙◌}
use mathlib.Core.List.{List, [], ◌∷◌, ◌++◌}
use native.Mathlib.Nat.{zero-add}
use native.Mathlib.Numerals.{add-one}
use native.Mathlib.Omega.{arith}
use mathlib.Core.Bool.{Bool, true, false}
use borrow.Author.Tests.{ltb-true, ltb-false}
use lib.Dec.{ltb}
use lib.ListN.{length, take, drop, get_or, set, length-set, take-append-drop, drop_of_length-le}
use lib.Seq.{drop-cons, sets, sets-eq, set_out, length-take-le, take_all}
use Rattle.page.specs.Page.{Page, page, put_byte, put}

pub put-append : (p : Page) (a b : List ℕ) → put p (a ++ b) ≡ put (put p a) b
unfolding put
put-append p [] b = refl
put-append p (x ∷ a) b = put-append (put_byte p x) a b

-- what two calls put, one after the other
pub put_then : (p q r : Page) (a b : List ℕ) → q ≡ put p a → r ≡ put q b → r ≡ put p (a ++ b)
put_then p q r a b e f = rw (put-append p a b, ← e) f

pub put-at : (p : Page) (t : List ℕ) → p.at < 2 ^ 64 → (put p t).at ≡ min (p.at + length t) (2 ^ 64 - 1)
unfolding put put_byte
put-at p [] h = omega arith
put-at p (b ∷ t) h = put-at (put_byte p b) t (omega arith) ∙ omega arith

pub put_count : (bytes t : List ℕ) → length t < 2 ^ 64 → (put (page bytes 0) t).at ≡ length t
put_count bytes t h = put-at (page bytes 0) t (omega arith) ∙ omega arith

pub put_measure : (a b : List ℕ) (at : ℕ) (t : List ℕ) → (put (page a at) t).at ≡ (put (page b at) t).at
unfolding put put_byte
put_measure a b at [] = refl
put_measure a b at (x ∷ t) = put_measure (set a at x) (set b at x) (min (at + 1) (2 ^ 64 - 1)) t

pub put-length : (p : Page) (t : List ℕ) → length (put p t).bytes ≡ length p.bytes
unfolding put put_byte
put-length p [] = refl
put-length p (b ∷ t) = put-length (put_byte p b) t ∙ length-set p.bytes p.at b

-- while the count doesn't stop, putting is storing from the place on
put_sets : (bytes : List ℕ) (at : ℕ) (t : List ℕ) → at + length t < 2 ^ 64
    → put (page bytes at) t ≡ page (sets bytes at t) (at + length t)
unfolding put put_byte
put_sets bytes at [] h = ap (page bytes) (omega arith)
put_sets bytes at (b ∷ t) h =
    let e : min (at + 1) (2 ^ 64 - 1) ≡ suc at = omega arith in
    rw e (put_sets (set bytes at b) (suc at) t (omega arith) ∙ ap (page (sets bytes at (b ∷ t))) (omega arith))

-- lent bytes are that short, so that the count can't stop on them
module _ (bytes t : List ℕ) (short : length bytes < 2 ^ 64) where
  pub put-fits : (at : ℕ) → at + length t ≤ length bytes
      → (put (page bytes at) t).bytes ≡ take at bytes ++ t ++ drop (at + length t) bytes
  put-fits at h = ap (λ (p : Page). p.bytes) (put_sets bytes at t (omega arith)) ∙ sets-eq t bytes at h

  pub put_front : length t ≤ length bytes → (put (page bytes 0) t).bytes ≡ t ++ drop (length t) bytes
  put_front h = put-fits 0 (omega arith) ∙ ap (λ (n : ℕ). t ++ drop n bytes) (zero-add (length t))

-- past the end nothing is stored
put_beyond : (p : Page) (t : List ℕ) → length p.bytes ≤ p.at → length p.bytes < 2 ^ 64 → (put p t).bytes ≡ p.bytes
unfolding put put_byte
put_beyond p [] h k = refl
put_beyond p (b ∷ t) h k =
    put_beyond (put_byte p b) t (rw (length-set p.bytes p.at b) (omega arith)) (rw (length-set p.bytes p.at b) k) ∙ set_out p.bytes p.at b h

module _ (bytes t : List ℕ) (at most : ℕ) (short : length bytes < 2 ^ 64) (within : at ≤ length bytes) (cut : most ≡ min (length t) (length bytes - at)) where
  front-length : length (take most t) ≡ most
  front-length = length-take-le most t (omega arith)

  front-fits : (put (page bytes at) (take most t)).bytes ≡ take at bytes ++ take most t ++ drop (at + most) bytes
  front-fits =
      put-fits bytes (take most t) short at (omega (arith, front-length)) ∙ ap (λ (k : ℕ). take at bytes ++ take most t ++ drop (at + k) bytes) front-length

  pub put_over : (put (page bytes at) t).bytes ≡ take at bytes ++ take most t ++ drop (at + most) bytes
  put_over = go (ltb (length bytes - at) (length t)) refl
    where
      p : Page
      p = put (page bytes at) (take most t)

      go : (b : Bool) → ltb (length bytes - at) (length t) ≡ b → (put (page bytes at) t).bytes ≡ take at bytes ++ take most t ++ drop (at + most) bytes
      go true h =
          let l = ltb-true _ _ h in
          let long = put-length (page bytes at) (take most t) in
          let full = put-at (page bytes at) (take most t) (omega arith) in
          ap (λ (s : List ℕ). (put (page bytes at) s).bytes) (sym (take-append-drop most t))
          ∙ ap (λ (q : Page). q.bytes) (put-append (page bytes at) (take most t) (drop most t))
          ∙ put_beyond p (drop most t) (omega (arith, front-length)) (omega arith)
          ∙ front-fits
      go false h =
          let l = ltb-false _ _ h in
          ap (λ (s : List ℕ). (put (page bytes at) s).bytes) (sym (take_all most t (omega arith))) ∙ front-fits

-- ---- one byte, by the code's test
module _ (bytes : List ℕ) (at b : ℕ) where
  pub put_on : at + 1 < 2 ^ 64 → page (set bytes at b) (at + 1) ≡ put (page bytes at) (b ∷ [])
  unfolding put put_byte
  put_on h = ap (page (set bytes at b)) (omega arith)

  pub put_past : (r : ℕ) → length bytes ≤ at → r ≡ min (at + 1) (2 ^ 64 - 1) → page bytes r ≡ put (page bytes at) (b ∷ [])
  unfolding put put_byte
  put_past r h e = rw (set_out bytes at b h) (ap (page bytes) e)

-- ---- a loop's turn
-- of what is still to be put, a is put and b is left
pub put_step : (p q e : Page) (a b : List ℕ) → q ≡ put p a → put p (a ++ b) ≡ e → put q b ≡ e
put_step p q e a b f h = rw f (sym (put-append p a b) ∙ h)

module _ (t : List ℕ) (i : ℕ) (p e : Page) where
  pub put_next : (q : Page) → i < length t → q ≡ put p (get_or t i 0 ∷ []) → put p (drop i t) ≡ e → put q (drop (i + 1) t) ≡ e
  put_next q l f h = put_step p q e (get_or t i 0 ∷ []) (drop (i + 1) t) f (rw (add-one i, ← drop-cons t i 0 l) h)

  pub put-done : length t ≤ i → put p (drop i t) ≡ e → p ≡ e
  unfolding put
  put-done l h = rw (drop_of_length-le t l) at h
