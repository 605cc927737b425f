-- Laws of a line's name, and of the number that counts it.
--     padded-reads              the six bytes, one by one
--     number_by_key_lem         a name is found by its number
--     master_by_key             and so is a MASTER line
--     never_second              no line counts for the second number
-- Assumes nothing.
use Prim.Native.Nat.{ℕ, suc}
use mathlib.Core.Path.{◌≡◌, refl, ◌∙◌}
use mathlib.Core.Bool.{Bool, true, false, cond, not, ◌&&◌}
use mathlib.Core.List.{List, [], ◌∷◌}
use native.Mathlib.Omega.{arith}
use lib.Dec.{T, eqb, eqb→eq, lt→ltb, ltb}
use lib.ListN.{length, get_or}
use lib.Ieee.Fits.{and_l, and_r, and_i}
use Rattle.kind.specs.Key.{key_of}
use Rattle.kind.specs.Kind.{same}
use Rattle.kind.proofs.Laws.Key.{Bytes, is_bytes, same_key}
use Rattle.line.specs.Bytes.{bytes}
use Rattle.std.proofs.Common.{Some, None}
use Rattle.tally.specs.Tally.{counts_at}
use Rattle.tally.specs.Names.{padded, Counted, names, number_by, number_by_key, number_of, is_master}

-- ---- the six bytes
pub padded-reads : (l : List ℕ)
    → padded 6 l ≡ get_or l 0 32 ∷ get_or l 1 32 ∷ get_or l 2 32 ∷ get_or l 3 32 ∷ get_or l 4 32 ∷ get_or l 5 32 ∷ []
padded-reads [] = refl
padded-reads (a ∷ []) = refl
padded-reads (a ∷ b ∷ []) = refl
padded-reads (a ∷ b ∷ c ∷ []) = refl
padded-reads (a ∷ b ∷ c ∷ d ∷ []) = refl
padded-reads (a ∷ b ∷ c ∷ d ∷ e ∷ []) = refl
padded-reads (a ∷ b ∷ c ∷ d ∷ e ∷ f ∷ t) = refl

-- ---- by number
padded-length : (n : ℕ) (l : List ℕ) → length (padded n l) ≡ n
padded-length ℕ.zero l = refl
padded-length (suc n) [] = let e = padded-length n [] in omega arith
padded-length (suc n) (b ∷ t) = let e = padded-length n t in omega arith

padded-bytes : (n : ℕ) (l : List ℕ) → Bytes l → T (is_bytes (padded n l))
padded-bytes ℕ.zero l f = tt
padded-bytes (suc n) [] f = padded-bytes n [] f
padded-bytes (suc n) (b ∷ t) f =
    and_i (ltb b 256) (is_bytes (padded n t)) (lt→ltb b 256 (omega (arith, f 0))) (padded-bytes n t (λ i. f (suc i)))

abbrev is_name_of : List ℕ → Bool
is_name_of t = eqb 6 (length t) && is_bytes t

abbrev are_names : List Counted → Bool
are_names [] = true
are_names (n ∷ ns) = is_name_of n.name && are_names ns

number_key : (s : List ℕ) (ns : List Counted) → length s ≡ 6 → T (is_bytes s) → T (are_names ns) → number_by s ns ≡ number_by_key (key_of s) ns
number_key s [] e b t = refl
number_key s (n ∷ ns) e b t =
    let first = and_l (is_name_of n.name) (are_names ns) t in
    let six = eqb→eq 6 (length n.name) (and_l (eqb 6 (length n.name)) (is_bytes n.name) first) in
    let plain = and_r (eqb 6 (length n.name)) (is_bytes n.name) first in
    let rest = number_key s ns e b (and_r (is_name_of n.name) (are_names ns) t) in
    rw (same_key s n.name (e ∙ six) b plain, rest) refl

pub number_by_key_lem : (l : List ℕ) → Bytes l → number_by (padded 6 l) names ≡ number_by_key (key_of (padded 6 l)) names
number_by_key_lem l f = number_key (padded 6 l) names (padded-length 6 l) (padded-bytes 6 l f) tt

pub master_by_key : (l : List ℕ) → Bytes l → is_master l ≡ eqb (key_of (padded 6 l)) (key_of (bytes "MASTER"))
unfolding is_master
master_by_key l f = same_key (padded 6 l) (bytes "MASTER") (padded-length 6 l) (padded-bytes 6 l f) tt

-- ---- the second number
abbrev no_second_of : List Counted → Bool
no_second_of [] = true
no_second_of (n ∷ ns) = not (eqb n.number 1) && no_second_of ns

not_second : (text : List ℕ) (ns : List Counted) → T (no_second_of ns) → counts_at 1 (number_by text ns) ≡ false
not_second text [] t = refl
not_second text (n ∷ ns) t =
    go (same text n.name) (eqb n.number 1) refl (and_l (not (eqb n.number 1)) (no_second_of ns) t)
    (not_second text ns (and_r (not (eqb n.number 1)) (no_second_of ns) t))
  where
    go : (b c : Bool) → eqb n.number 1 ≡ c → T (not c) → counts_at 1 (number_by text ns) ≡ false
        → counts_at 1 (cond b (Some n.number) (number_by text ns)) ≡ false
    go true false e h rest = e
    go true true e h rest = absurd h
    go false c e h rest = rest

pub never_second : (l : List ℕ) → counts_at 1 (number_of l) ≡ false
unfolding number_of
never_second l = go (ltb (length l) 3)
  where
    go : (b : Bool) → counts_at 1 (cond b None (number_by (padded 6 l) names)) ≡ false
    go true = refl
    go false = not_second (padded 6 l) names tt
