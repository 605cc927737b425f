-- The list as it is held.
--     replaced-apart      between two runs of replaced bytes stands a byte: neighbours with the same mend are one
--     noted_sets          noted one after the other, they are stored one behind the other
--     held_all            512 words hold them all, in their order, and what follows stays the same
-- Assumes nothing.
use Prim.Native.Nat.{ℕ, suc, ◌+◌, ◌-◌, ◌<◌, ◌≤◌}
use mathlib.Core.Path.{◌≡◌, refl, ap, ◌∙◌}
use mathlib.Core.Bool.{Bool, true, false, cond}
use mathlib.Core.List.{List, [], ◌∷◌, ◌++◌, map}
use native.Mathlib.Omega.{arith}
use native.Mathlib.Numerals.{add-one}
use borrow.Author.Tests.{eqb-false}
use lib.ListN.{length, drop, set}
use lib.Seq.{sets, sets-eq}
use lib.Dec.{ltb, eqb}
use Rattle.mend.specs.Changes.{What, Change, runs, changes_of, word_of, notes, note_all}
use Rattle.mend.proofs.Laws.Changes.{changes_few}

-- ---- apart
-- the first change starts at a place or behind it; each is of some bytes; and between two of the same mend stands a byte
abbrev pub Apart : ℕ → List Change → Type 0
Apart from [] = Unit {0}
Apart from (c ∷ rest) = (from ≤ c.place) × (0 < c.length) × Apart (c.place + c.length + 1) rest

apart_weaker : (a b : ℕ) (cs : List Change) → b ≤ a → Apart a cs → Apart b cs
apart_weaker a b [] h s = tt
apart_weaker a b (c ∷ cs) h s = (omega (arith, s.0), s.1, s.2)

-- an open run of n bytes before a place
runs-apart : (at n : ℕ) (t : List ℕ) → n ≤ at → Apart (at - n) (runs at n t)
unfolding runs
runs-apart at n [] h = go (eqb n 0) refl
  where
    go : (x : Bool) → eqb n 0 ≡ x → Apart (at - n) (cond {A = List Change} x [] (record { place = at - n; length = n; what = What.replaced } ∷ []))
    go true e = tt
    go false e = let z = eqb-false n 0 e in (omega arith, omega arith, tt)
runs-apart at n (b ∷ t) h = go (ltb b 128) (eqb n 0) refl (runs-apart (suc at) 0 t (omega arith)) (runs-apart (suc at) (suc n) t (omega arith))
  where
    go : (x y : Bool) → eqb n 0 ≡ y → Apart (suc at - 0) (runs (suc at) 0 t) → Apart (suc at - suc n) (runs (suc at) (suc n) t)
        → Apart (at - n) (cond x (cond {A = List Change} y [] (record { place = at - n; length = n; what = What.replaced } ∷ []) ++ runs (suc at) 0 t) (runs (suc at) (suc n) t))
    go true true e p q = apart_weaker (suc at - 0) (at - n) (runs (suc at) 0 t) (omega arith) p
    go true false e p q =
        let z = eqb-false n 0 e in
        (omega arith, omega arith, apart_weaker (suc at - 0) (at - n + n + 1) (runs (suc at) 0 t) (omega arith) p)
    go false y e p q = apart_weaker (suc at - suc n) (at - n) (runs (suc at) (suc n) t) (omega arith) q

pub replaced-apart : (l : List ℕ) → Apart 0 (runs 0 0 l)
replaced-apart l = apart_weaker (0 - 0) 0 (runs 0 0 l) (omega arith) (runs-apart 0 0 l (omega arith))

-- ---- held
pub noted_sets : (ws : List ℕ) (k : ℕ) (cs : List Change) → (note_all (notes ws k) cs).words ≡ sets ws k (map word_of cs)
unfolding note_all
noted_sets ws k [] = refl
noted_sets ws k (c ∷ cs) = noted_sets (set ws k (word_of c)) (k + 1) cs ∙ ap (λ (n : ℕ). sets (set ws k (word_of c)) n (map word_of cs)) (add-one k)

map-length : (cs : List Change) → length (map word_of cs) ≡ length cs
map-length [] = refl
map-length (c ∷ cs) = ap suc (map-length cs)

pub held_all : (l ws : List ℕ) → length l ≤ 1024 → 512 ≤ length ws
    → sets ws 0 (map word_of (changes_of l)) ≡ map word_of (changes_of l) ++ drop (length (changes_of l)) ws
held_all l ws h k =
    let few = changes_few l h in
    let n = map-length (changes_of l) in
    let e : 0 + length (map word_of (changes_of l)) ≡ length (changes_of l) = omega arith in
    sets-eq (map word_of (changes_of l)) ws 0 (omega arith) ∙ ap (λ (x : ℕ). map word_of (changes_of l) ++ drop x ws) e
