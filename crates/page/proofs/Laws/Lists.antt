-- Laws of lists of bytes.
--     gathered                        an array that is filled from the back
--     rest_from                       a part of one, from a place to its end
--     Between, between_member         every byte lies between two
--     no-feed                         then there is no LF, if the lower one is above it
--     either-most                     one text or another is no longer than both may be
-- Assumes nothing.
use Prim.Native.Nat.{ℕ, zero, suc, ◌-◌, ◌≤◌, ◌<◌}
use mathlib.Core.Path.{◌≡◌, refl}
use mathlib.Core.Logic.{⊎_elim}
use mathlib.Core.Bool.{Bool, true, false, cond}
use mathlib.Core.List.Memᴰ
use mathlib.Core.List.{List, [], ◌∷◌, Memᴰ}
use native.Mathlib.Omega.{arith}
use lib.ListN.{length, take, drop, set, length-set, length-drop}
use lib.Seq.{take_all, drop-cons, drop-set-lt, get_or-set_same}

-- one more byte stored in front of those that are
pub gathered : (l : List ℕ) (i v : ℕ) → 0 < i → i ≤ length l → drop (i - 1) (set l (i - 1) v) ≡ v ∷ drop i l
gathered l zero v some fits = absurd (omega arith)
gathered l (suc j) v some fits =
    let e : suc j - 1 ≡ j = omega arith in
    let h : j < length (set l j v) = rw (length-set l j v) (omega arith) in
    rw (e, drop-cons (set l j v) j 0 h, get_or-set_same l j v 0 fits, drop-set-lt (suc j) l j v (omega arith)) refl

-- what a part up to the end holds
pub rest_from : (n k : ℕ) (t : List ℕ) → k ≡ length t - n → take k (drop n t) ≡ drop n t
rest_from n k t e = take_all k (drop n t) (omega (arith, length-drop n t))

-- every byte lies between two
abbrev pub Between : ℕ → ℕ → List ℕ → Type 0
Between low high [] = Unit
Between low high (b ∷ t) = ((low ≤ b) × (b ≤ high)) × Between low high t

pub between_member : (low high b : ℕ) (t : List ℕ) → Between low high t → Memᴰ b t → (low ≤ b) × (b ≤ high)
between_member low high b [] w m = absurd (Memᴰ.not-nil m)
between_member low high b (x ∷ t) w m =
    ⊎_elim (λ e. (omega arith, omega arith)) (λ h. between_member low high b t w.1 h) (Memᴰ.cases_cons m)

-- bytes from 11 on have no LF among them
pub no-feed : (low high : ℕ) (t : List ℕ) → 10 < low → Between low high t → Memᴰ 10 t → ⊥
no-feed low high t l w m = let h = between_member low high 10 t w m in omega arith

pub either-most : (n : ℕ) (b : Bool) (s t : List ℕ) → length s ≤ n → length t ≤ n → length (cond b s t) ≤ n
either-most n true s t h k = h
either-most n false s t h k = k
