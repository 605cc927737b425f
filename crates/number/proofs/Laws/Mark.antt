-- Laws of where the first `e` or `E` stands.
--     mark-le                   within the text
--     mark-position             as the library finds it
--     mark_none, mark_some      by its answer
-- Assumes nothing.
use Prim.Native.Nat.{ℕ, suc, ◌+◌, ◌≤◌, ◌<◌}
use mathlib.Core.Path.{◌≡◌, refl, sym, ap}
use mathlib.Core.Bool.{Bool, true, false, cond}
use mathlib.Core.List.{List, [], ◌∷◌}
use native.Mathlib.Omega.{arith}
use borrow.Author.Tests.{ltb-true, ltb-false}
use lib.ListN.{length, drop, get_or}
use Rattle.std.specs.Prelude.{Some, None, nat_lt}
use Rattle.std.specs.List.{position, position_or_len}
use Rattle.std.proofs.lemmas.List.Recursion.{is_position_or_len}
use Rattle.number.specs.Wide.{mark, mark_at}

pub mark-le : (t : List ℕ) → mark_at t ≤ length t
unfolding mark_at
mark-le [] = omega arith
mark-le (b ∷ t) = go (mark b) (mark-le t)
  where
    go : (q : Bool) → mark_at t ≤ length t → cond q 0 (suc (mark_at t)) ≤ suc (length t)
    go true h = omega arith
    go false h = omega arith

pub mark-position : (t : List ℕ) → mark_at t ≡ position_or_len mark t
unfolding mark_at
mark-position t = is_position_or_len mark_at mark refl (λ b u. ap (cond (mark b) 0) (omega arith)) t

-- ---- by the library's answer
pub mark_none : (t : List ℕ) → position mark t ≡ None → length t ≤ mark_at t
mark_none t e = rw (mark-position t) (go (nat_lt (position_or_len mark t) (length t)) refl e)
  where
    go : (b : Bool) → nat_lt (position_or_len mark t) (length t) ≡ b → cond b (Some (position_or_len mark t)) None ≡ None
        → length t ≤ position_or_len mark t
    go true l e = absurd (let z : ◌≡◌ {A = ℕ} 0 1 = cc in omega arith)
    go false l e = ltb-false (position_or_len mark t) (length t) l

pub mark_some : (t : List ℕ) {i : ℕ} → position mark t ≡ Some i → (i < length t) × (i ≡ mark_at t)
mark_some t {i} e = rw (mark-position t) (go (nat_lt (position_or_len mark t) (length t)) refl e)
  where
    go : (b : Bool) → nat_lt (position_or_len mark t) (length t) ≡ b → cond b (Some (position_or_len mark t)) None ≡ Some i
        → (i < length t) × (i ≡ position_or_len mark t)
    go true l e =
        let same : position_or_len mark t ≡ i = cc in
        (rw (← same) (ltb-true (position_or_len mark t) (length t) l), sym same)
    go false l e = absurd (let z : ◌≡◌ {A = ℕ} 0 1 = cc in omega arith)
