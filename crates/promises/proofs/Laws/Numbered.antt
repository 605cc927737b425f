-- "For an answer that is an enum, a definition gives this paper's number", of kinds: a kind's number is its name's place in the one list of names.
--     kind-numbered     a line over six bytes long whose first six are the n-th name, from 0, has the kind with the number n, or 0 where atoms only
--                       doesn't keep it
--     number-named      a line over six bytes long whose kind has a number above 0 begins with the name at that place
-- Assumes nothing.
use Prim.Native.Nat.{ℕ, zero, suc, zero-le, suc-le-suc, ◌+◌, ◌<◌}
use mathlib.Core.Path.{◌≡◌, refl, sym, ap, ◌∙◌}
use mathlib.Core.Bool.{Bool, true, false, cond, ◌&&◌}
use mathlib.Core.List.{List, [], ◌∷◌}
use mathlib.Core.Logic.{◌⊎◌, inl, inr}
use native.Mathlib.Nat.{le_of_suc-le-suc, not-suc-le-zero}
use native.Mathlib.Omega.{arith}
use borrow.Author.Tests.{eqb-true, lt-ltb}
use lib.Dec.{T, eqb, eqb→eq}
use lib.ListN.{length, take}
use lib.Ieee.Fits.{and_l, and_r}
use Rattle.line.specs.declared.options.Mode.{Mode}
use Rattle.kind.specs.Kind.{Named, names, kept_names, names_by, same, kind_by, kind_of, row_place, number_of}
use Rattle.kind.specs.Name.{name_at, kept_at}
use Rattle.promises.specs.Numbered.{place_number}

-- ---- from the name to the number, by computing
-- each name of a list, from place k on, has the kind with its place's number
abbrev are_numbered : Bool → ℕ → List Named → Bool
are_numbered atoms k [] = true
are_numbered atoms k (n ∷ t) = eqb (number_of (kind_by n.name (names_by atoms))) (place_number atoms k) && are_numbered atoms (suc k) t

numbered-at : (atoms : Bool) (k : ℕ) (ns : List Named) → T (are_numbered atoms k ns) → (n : ℕ) → n < length ns
    → number_of (kind_by (name_at n ns) (names_by atoms)) ≡ place_number atoms (k + n)
numbered-at atoms k [] t n h = absurd (not-suc-le-zero h)
numbered-at atoms k (x ∷ ns) t zero h =
    let this = eqb (number_of (kind_by x.name (names_by atoms))) (place_number atoms k) in
    let same : k + 0 ≡ k = omega arith in
    rw same (eqb→eq _ _ (and_l this (are_numbered atoms (suc k) ns) t))
numbered-at atoms k (x ∷ ns) t (suc n) h =
    let this = eqb (number_of (kind_by x.name (names_by atoms))) (place_number atoms k) in
    let next : k + suc n ≡ suc k + n = omega arith in
    rw next (numbered-at atoms (suc k) ns (and_r this (are_numbered atoms (suc k) ns) t) n (le_of_suc-le-suc h))

all-numbered : (atoms : Bool) → T (are_numbered atoms 0 names)
unfolding row_place
all-numbered true = tt
all-numbered false = tt

numbered : (atoms : Bool) (n : ℕ) → n < length names → number_of (kind_by (name_at n names) (names_by atoms)) ≡ place_number atoms n
numbered atoms n h =
    let same : 0 + n ≡ n = omega arith in rw same at (numbered-at atoms 0 names (all-numbered atoms) n h)

pub kind-numbered : (atoms : Bool) (mode : Mode) (l : List ℕ) (n : ℕ) → 6 < length l → n < length names → take 6 l ≡ name_at n names
    → number_of (kind_of atoms mode l) ≡ place_number atoms n
unfolding kind_of
kind-numbered atoms mode l n long h e = rw (lt-ltb 6 (length l) long, e) (numbered atoms n h)

-- ---- from the number to the name
same_text : (s t : List ℕ) → same s t ≡ true → s ≡ t
same_text [] [] e = refl
same_text [] (b ∷ t) e = cc
same_text (a ∷ s) [] e = cc
same_text (a ∷ s) (b ∷ t) e = go (eqb a b) (same s t) refl (λ q. same_text s t q) e
  where
    go : (u v : Bool) → eqb a b ≡ u → (v ≡ true → s ≡ t) → u && v ≡ true → a ∷ s ≡ b ∷ t
    go true v p q e = rw (eqb-true a b p, q e) refl
    go false v p q e = cc

-- a text's kind has the number 0, or the text is one of a list's names
abbrev In : List ℕ → ℕ → List Named → Type 0
In text number ns = (number ≡ 0) ⊎ ((n : ℕ) × (n < length ns) × (text ≡ name_at n ns))

module _ (text : List ℕ) where
  skip : (number : ℕ) (x : Named) (ns : List Named) → In text number ns → In text number (x ∷ ns)
  skip number x ns (inl z) = inl z
  skip number x ns (inr (n, h, e)) = inr (suc n, suc-le-suc h, e)

  step : (x : Named) (rest ns : List Named) → In text (number_of (kind_by text rest)) ns → In text (number_of (kind_by text (x ∷ rest))) (x ∷ ns)
  step x rest ns found = go (same text x.name) refl
    where
      go : (b : Bool) → same text x.name ≡ b → In text (number_of (cond b x.kind (kind_by text rest))) (x ∷ ns)
      go true e = inr (zero, suc-le-suc zero-le, same_text text x.name e)
      go false e = skip (number_of (kind_by text rest)) x ns found

  any_in : (ns : List Named) → In text (number_of (kind_by text ns)) ns
  any_in [] = inl refl
  any_in (x ∷ ns) = step x ns ns (any_in ns)

  kept_in : (ns : List Named) → In text (number_of (kind_by text (kept_names ns))) ns
  kept_in [] = inl refl
  kept_in (x ∷ ns) = go x.is_kept (kept_in ns)
    where
      go : (b : Bool) → In text (number_of (kind_by text (kept_names ns))) ns
          → In text (number_of (kind_by text (cond b (x ∷ kept_names ns) (kept_names ns)))) (x ∷ ns)
      go true found = step x (kept_names ns) ns found
      go false found = skip (number_of (kind_by text (kept_names ns))) x ns found

  found_in : (atoms : Bool) → In text (number_of (kind_by text (names_by atoms))) names
  found_in true = kept_in names
  found_in false = any_in names

place_or_none : (atoms : Bool) (n : ℕ) → (place_number atoms n ≡ 0) ⊎ (place_number atoms n ≡ n)
place_or_none false n = inr refl
place_or_none true n = go (kept_at n names)
  where
    go : (b : Bool) → (cond b n 0 ≡ 0) ⊎ (cond b n 0 ≡ n)
    go true = inr refl
    go false = inl refl

pub number-named : (atoms : Bool) (mode : Mode) (l : List ℕ) → 6 < length l
    → (number_of (kind_of atoms mode l) ≡ 0) ⊎ (take 6 l ≡ name_at (number_of (kind_of atoms mode l)) names)
unfolding kind_of
number-named atoms mode l long = rw (lt-ltb 6 (length l) long) (go (found_in (take 6 l) atoms))
  where
    number : ℕ
    number = number_of (kind_by (take 6 l) (names_by atoms))

    at : (n : ℕ) → take 6 l ≡ name_at n names → number ≡ place_number atoms n → (place_number atoms n ≡ 0) ⊎ (place_number atoms n ≡ n)
        → (number ≡ 0) ⊎ (take 6 l ≡ name_at number names)
    at n e q (inl z) = inl (q ∙ z)
    at n e q (inr p) = inr (e ∙ ap (λ k. name_at k names) (sym (q ∙ p)))

    go : In (take 6 l) number names → (number ≡ 0) ⊎ (take 6 l ≡ name_at number names)
    go (inl z) = inl z
    go (inr (n, h, e)) = at n e (rw e (numbered atoms n h)) (place_or_none atoms n)
