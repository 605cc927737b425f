-- The table that the code holds is what the definition says.
--     same_eq              texts that are the same bytes are equal
--     found                what is found among fields is what is called there
--     text_in, text_out    a text at a place of a list, and past its end
-- Assumes nothing.
use Prim.Native.Nat.{ℕ, suc, ◌≤◌, ◌<◌}
use mathlib.Core.Bool.{Bool, true, false, cond, ◌&&◌}
use native.Mathlib.Omega.{arith}
use lib.ListN.{length, get_or}
use Rattle.std.specs.Prelude.{Option, Some, find, unwrap_or}
use Rattle.kind.specs.Kind.{number_of}
use denote.Ref.{Bor}
use Rattle.names.specs.declared.Field.{Field}
use mathlib.Core.Path.{◌≡◌, refl, ap}
use mathlib.Core.List.{List, [], ◌∷◌, map}
use lib.Dec.{T, eqb, eqb→eq}
use lib.Ieee.Fits.{and_l, and_r}
use Rattle.kind.specs.Kind.{same}
use Rattle.names.specs.Names.{text_at, other, called_by, is_of, called_in}

pub same_eq : (s t : List ℕ) → T (same s t) → s ≡ t
same_eq [] [] h = refl
same_eq [] (b ∷ t) h = absurd h
same_eq (a ∷ s) [] h = absurd h
same_eq (a ∷ s) (b ∷ t) h =
    let e = eqb→eq a b (and_l (eqb a b) (same s t) h) in
    rw e (ap (b ∷◌) (same_eq s t (and_r (eqb a b) (same s t) h)))

module _ (family column : ℕ) (none : Field) (same : called_by none ≡ other) where
  by_test : (fs : List Field) → called_by (unwrap_or (find (is_of family column) fs) none) ≡ called_in family column (map called_by fs)
  by_test [] = same
  by_test (f ∷ fs) = go (eqb (number_of f.0) family && eqb f.1 column) (by_test fs)
    where
      go : (b : Bool) → called_by (unwrap_or (find (is_of family column) fs) none) ≡ called_in family column (map called_by fs)
          → called_by (unwrap_or (cond b (Some f) (find (is_of family column) fs)) none) ≡ cond b (called_by f) (called_in family column (map called_by fs))
      go true e = refl
      go false e = e

pub found : (family column : ℕ) (fs : List Field) (none r : Field) (o : Option Field) → r ≡ unwrap_or o none → o ≡ find (is_of family column) fs
    → called_by none ≡ other → called_by r ≡ called_in family column (map called_by fs)
found family column fs none r o e f same = rw (e, f) (by_test family column none same fs)

pub text_in : (ts : List (Bor (List ℕ))) (d : Bor (List ℕ)) (i : ℕ) → i < length ts → (get_or ts i d).now ≡ text_at i (map (λ t. t.now) ts)
text_in [] d i h = absurd (omega arith)
text_in (t ∷ ts) d ℕ.zero h = refl
text_in (t ∷ ts) d (suc i) h = text_in ts d i (omega arith)

pub text_out : (ts : List (Bor (List ℕ))) (i : ℕ) → length ts ≤ i → [] ≡ text_at i (map (λ t. t.now) ts)
text_out [] i h = refl
text_out (t ∷ ts) ℕ.zero h = absurd (omega arith)
text_out (t ∷ ts) (suc i) h = text_out ts i (omega arith)
