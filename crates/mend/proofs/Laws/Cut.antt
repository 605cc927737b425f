-- The field that is found to be cut.
--     one_uncut      a single column isn't cut
--     cut-fields     so the code's fields are enough: those of more columns
--     cut-found      columns are found exactly when a field of the table is cut
--     cut-is         and they are cut
--     cut-told, cut-by    so for ATOM's table
--     left_when      a line is left cut exactly when it is an ATOM or HETATM of which a field is cut
--     left_is        and the columns that are told are cut
-- Assumes nothing.
use Prim.Native.Nat.{ℕ, suc}
use mathlib.Core.Path.{◌≡◌, refl, sym, ap, ◌∙◌}
use mathlib.Core.Bool.{Bool, true, false, cond, ◌&&◌, ◌||◌}
use mathlib.Core.List.{List, [], ◌∷◌, map}
use native.Mathlib.Omega.{arith}
use borrow.Author.Tests.{ltb-true, le-ltb}
use lib.ListN.{length}
use lib.Dec.{ltb}
use Rattle.std.specs.Prelude.{Option, Some, None}
use Rattle.std.specs.List.{find}
use Rattle.std.specs.Option.{is_some}
use Rattle.atom.specs.Atom.{atom_table}
use Rattle.field.specs.Table.{Entry}
use Rattle.line.specs.Columns.{◌⋯◌, only}
use Rattle.line.specs.declared.columns.Columns.{Columns}
use Rattle.mend.specs.Mend.{cut, columns_of, cut_in, cut_field, is_atom_line, left_cut}

-- a single column isn't cut
pub one_uncut : (k n : ℕ) → cut (only k) n ≡ false
one_uncut k n = go (ltb k n) refl
  where
    go : (y : Bool) → ltb k n ≡ y → y && ltb n (suc k) ≡ false
    go false e = refl
    go true e = le-ltb n (suc k) (let h = ltb-true k n e in omega arith)

abbrev pub fields : List Columns
fields =
    (30 ⋯ 38) ∷ (38 ⋯ 46) ∷ (46 ⋯ 54) ∷ (54 ⋯ 60) ∷ (60 ⋯ 66) ∷ (6 ⋯ 11) ∷ (12 ⋯ 16) ∷ (17 ⋯ 20) ∷ (22 ⋯ 26)
    ∷ (72 ⋯ 76) ∷ (76 ⋯ 78) ∷ (78 ⋯ 80) ∷ []

pub cut-fields : (n : ℕ) → find (λ (at : Columns). cut at n) fields ≡ cut_field n
unfolding cut_field
cut-fields n = simp (one_uncut 16 n, one_uncut 21 n, one_uncut 26 n)

module _ (n : ℕ) where
  pub cut-found : (es : List Entry) → is_some (find (λ (at : Columns). cut at n) (map columns_of es)) ≡ cut_in es n
  cut-found [] = refl
  cut-found (e ∷ es) = go (cut (columns_of e) n) (cut-found es)
    where
      go : (b : Bool) → is_some (find (λ (at : Columns). cut at n) (map columns_of es)) ≡ cut_in es n
          → is_some (cond b (Some (columns_of e)) (find (λ (at : Columns). cut at n) (map columns_of es))) ≡ b || cut_in es n
      go true h = refl
      go false h = h

  pub cut-is : (es : List Entry) (at : Columns) → find (λ (c : Columns). cut c n) (map columns_of es) ≡ Some at → cut at n ≡ true
  cut-is [] at h = cc
  cut-is (e ∷ es) at h = go (cut (columns_of e) n) refl (cut-is es at) h
    where
      go : (b : Bool) → cut (columns_of e) n ≡ b → (find (λ (c : Columns). cut c n) (map columns_of es) ≡ Some at → cut at n ≡ true)
          → cond b (Some (columns_of e)) (find (λ (c : Columns). cut c n) (map columns_of es)) ≡ Some at → cut at n ≡ true
      go true f k g = let same : columns_of e ≡ at = cc in rw (← same) f
      go false f k g = k g

  pub cut-told : is_some (cut_field n) ≡ cut_in atom_table n
  unfolding cut_field
  cut-told = cut-found atom_table

  -- whether there are some says whether one is cut
  pub cut-by : (o : Option Columns) (b d : Bool) → o ≡ cut_field n → b ≡ is_some o → b ≡ d → cut_in atom_table n ≡ d
  cut-by o b d e f g = sym cut-told ∙ ap (λ (x : Option Columns). is_some x) (sym e) ∙ sym f ∙ g

module _ (l : List ℕ) where
  pub left_when : is_some (left_cut l) ≡ is_atom_line l && cut_in atom_table (length l)
  unfolding left_cut
  left_when = go (is_atom_line l)
    where
      go : (b : Bool) → is_some (cond b (cut_field (length l)) None) ≡ b && cut_in atom_table (length l)
      go true = cut-told (length l)
      go false = refl

  pub left_is : (at : Columns) → left_cut l ≡ Some at → cut at (length l) ≡ true
  unfolding left_cut cut_field
  left_is at = go (is_atom_line l)
    where
      go : (b : Bool) → cond b (find (λ (c : Columns). cut c (length l)) (map columns_of atom_table)) None ≡ Some at → cut at (length l) ≡ true
      go true e = cut-is (length l) atom_table at e
      go false e = cc
