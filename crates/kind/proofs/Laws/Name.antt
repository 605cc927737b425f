-- Laws of names.
--     row-name      a row's name among three is the one at its place, and none where there is no such place
--     name-most     a name has at most six bytes
-- Assumes nothing.
use Prim.Native.Nat.{ℕ, suc, ◌+◌, ◌≤◌}
use mathlib.Core.Path.{◌≡◌, refl}
use mathlib.Core.Bool.{Bool, true, false, cond, ◌&&◌}
use mathlib.Core.List.{List, [], ◌∷◌}
use lib.ListN.{length}
use lib.Dec.{T, eqb, leb, leb→le, lit≤}
use lib.Ieee.Fits.{and_l, and_r}
use Rattle.kind.specs.Kind.{Named, names, no_kind, row_place, number_of}
use Rattle.kind.specs.Name.{name_at, word, name_of, row_name}
use Rattle.kind.specs.declared.Kind.{Kind}

abbrev named : ℕ → List ℕ
named place = word (name_at place names)

pub row-name : (row first : ℕ) → row_name row (named first) (named (first + 1)) (named (first + 2)) ≡ named (row_place first row)
unfolding row_place
row-name row first = go (eqb row 0) (eqb row 1) (eqb row 2)
  where
    go : (a b c : Bool)
        → cond a (named first) (cond b (named (first + 1)) (cond c (named (first + 2)) []))
        ≡ named (cond a first (cond b (first + 1) (cond c (first + 2) no_kind)))
    go true b c = refl
    go false true c = refl
    go false false true = refl
    go false false false = refl

-- ---- no name has more than six bytes
abbrev are_short : List Named → Bool
are_short [] = true
are_short (n ∷ ns) = leb (length (word n.name)) 6 && are_short ns

place-most : (ns : List Named) → T (are_short ns) → (place : ℕ) → length (word (name_at place ns)) ≤ 6
place-most [] h place = lit≤ tt
place-most (n ∷ ns) h ℕ.zero = leb→le (length (word n.name)) 6 (and_l (leb (length (word n.name)) 6) (are_short ns) h)
place-most (n ∷ ns) h (suc place) = place-most ns (and_r (leb (length (word n.name)) 6) (are_short ns) h) place

pub name-most : (k : Kind) → length (name_of k) ≤ 6
name-most k = place-most names tt (number_of k)
