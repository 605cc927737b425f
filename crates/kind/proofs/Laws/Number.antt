-- Laws of a kind's number.
--     place-near, place-far     the place of a row, by whether it is above 2
--     by_kind          a test that the kinds of all names pass, and EMPTY's, is passed by the kind of a line
--     kind-known       so the kind of a line has a number below `no_kind`
--     number-tells     and such a number is one kind's alone
-- Assumes nothing.
use Prim.Native.Nat.{ℕ, suc, ◌+◌, ◌≤◌, ◌<◌}
use mathlib.Core.Path.{◌≡◌, refl, sym, ap, ◌∙◌}
use mathlib.Core.Bool.{Bool, true, false, cond, ◌&&◌}
use mathlib.Core.List.{List, [], ◌∷◌}
use native.Mathlib.Omega.{arith}
use borrow.Author.Tests.{ne_eqb, eqb-true, ltb-true}
use lib.ListN.{length, take}
use lib.Dec.{T, eqb, ltb}
use lib.Ieee.Bits.{is_true}
use lib.Ieee.Fits.{and_l, and_r}
use Rattle.line.specs.declared.options.Mode.{Mode}
use Rattle.kind.specs.Kind.{Named, names, names_by, short_names, same, kind_by, ends_model, kind_of, no_kind, row_place, number_of}
use Rattle.kind.specs.declared.Kind.{Kind}
use Rattle.kind.specs.declared.Kind.TheVariants.{Empty, Header, Remark, Atom, Hetatm, Anisou, Cryst1, Scale, Origx, Mtrix, Model, Master, Dbref, Dbref1, Dbref2, Seqres, Seqadv, Modres, Ssbond, Endmdl, Ter, End}

-- ---- the place of a row
pub place-near : (first row : ℕ) → row ≤ 2 → first + row ≡ row_place first row
unfolding row_place
place-near first ℕ.zero h = omega arith
place-near first (suc ℕ.zero) h = omega arith
place-near first (suc (suc ℕ.zero)) h = omega arith
place-near first (suc (suc (suc row))) h = absurd (omega arith)

pub place-far : (first row : ℕ) → 2 < row → no_kind ≡ row_place first row
unfolding row_place
place-far first row h = rw (ne_eqb row 0 (λ e. omega arith), ne_eqb row 1 (λ e. omega arith), ne_eqb row 2 (λ e. omega arith)) refl

-- ---- the kind of a line is a name's, or EMPTY
module _ (test : Kind → Bool) where
  abbrev pub each_passes : List Named → Bool
  each_passes [] = test Empty
  each_passes (n ∷ ns) = test n.kind && each_passes ns

  either : (b : Bool) (j k : Kind) → T (test j) → T (test k) → T (test (cond b j k))
  either true j k p q = p
  either false j k p q = q

  by_names : (ns : List Named) → T (each_passes ns) → (text : List ℕ) → T (test (kind_by text ns))
  by_names [] h text = h
  by_names (n ∷ ns) h text =
      either (same text n.name) n.kind (kind_by text ns) (and_l (test n.kind) (each_passes ns) h)
      (by_names ns (and_r (test n.kind) (each_passes ns) h) text)

  pub by_kind : (atoms : Bool) → T (each_passes (names_by atoms)) → T (each_passes short_names) → T (test Endmdl) → T (test Empty)
      → (mode : Mode) (l : List ℕ) → T (test (kind_of atoms mode l))
  unfolding kind_of
  by_kind atoms long short ends empty mode l =
      let three = kind_by (take 3 l) short_names in
      let other : Kind = cond (ltb 2 (length l)) three Empty in
      either (ltb 6 (length l)) (kind_by (take 6 l) (names_by atoms)) (cond (ends_model mode l) Endmdl other) (by_names (names_by atoms) long (take 6 l))
      (either (ends_model mode l) Endmdl other ends (either (ltb 2 (length l)) three Empty (by_names short_names short (take 3 l)) empty))

abbrev known : Kind → Bool
known k = ltb (number_of k) no_kind

known-below : (k : Kind) → T (known k) → number_of k < no_kind
known-below k h = ltb-true (number_of k) no_kind (is_true (known k) h)

pub kind-known : (atoms : Bool) (mode : Mode) (l : List ℕ) → number_of (kind_of atoms mode l) < no_kind
unfolding row_place
kind-known true mode l = known-below (kind_of true mode l) (by_kind known true tt tt tt tt mode l)
kind-known false mode l = known-below (kind_of false mode l) (by_kind known false tt tt tt tt mode l)

-- ---- back from the number
abbrev kind_at : ℕ → List Named → Kind
kind_at place [] = Empty
kind_at ℕ.zero (n ∷ ns) = n.kind
kind_at (suc place) (n ∷ ns) = kind_at place ns

row_back : (make : ℕ → Kind) (first : ℕ) → kind_at first names ≡ make 0 → kind_at (first + 1) names ≡ make 1 → kind_at (first + 2) names ≡ make 2
    → (row : ℕ) → row_place first row < no_kind → kind_at (row_place first row) names ≡ make row
unfolding row_place
row_back make first zero one two row = go (eqb row 0) (eqb row 1) (eqb row 2) (eqb-true row 0) (eqb-true row 1) (eqb-true row 2)
  where
    go : (a b c : Bool) → (a ≡ true → row ≡ 0) → (b ≡ true → row ≡ 1) → (c ≡ true → row ≡ 2)
        → cond a first (cond b (first + 1) (cond c (first + 2) no_kind)) < no_kind
        → kind_at (cond a first (cond b (first + 1) (cond c (first + 2) no_kind))) names ≡ make row
    go true b c p q r h = zero ∙ ap make (sym (p refl))
    go false true c p q r h = one ∙ ap make (sym (q refl))
    go false false true p q r h = two ∙ ap make (sym (r refl))
    go false false false p q r h = absurd (omega arith)

number-back : (k : Kind) → number_of k < no_kind → kind_at (number_of k) names ≡ k
number-back Empty h = refl
number-back Header h = refl
number-back Remark h = refl
number-back Atom h = refl
number-back Hetatm h = refl
number-back Anisou h = refl
number-back Cryst1 h = refl
number-back (Scale row) h = row_back Scale 7 refl refl refl row h
number-back (Origx row) h = row_back Origx 10 refl refl refl row h
number-back (Mtrix row) h = row_back Mtrix 13 refl refl refl row h
number-back Model h = refl
number-back Master h = refl
number-back Dbref h = refl
number-back Dbref1 h = refl
number-back Dbref2 h = refl
number-back Seqres h = refl
number-back Seqadv h = refl
number-back Modres h = refl
number-back Ssbond h = refl
number-back Endmdl h = refl
number-back Ter h = refl
number-back End h = refl

pub number-tells : (j k : Kind) → number_of k < no_kind → number_of j ≡ number_of k → j ≡ k
number-tells j k h e = sym (number-back j (omega arith)) ∙ ap (λ (n : ℕ). kind_at n names) e ∙ number-back k h
