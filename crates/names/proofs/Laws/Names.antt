-- Laws of names, for callers. Each is a test that is computed over the whole table.
--     group-few                                 there are twenty groups
--     name-short, default-short, group-short    no text is longer than 32 bytes
--     name-word, default-word, group-word       and none has an LF
-- Assumes nothing.
use Prim.Native.Nat.{ℕ, suc, ◌≤◌, ◌<◌}
use mathlib.Core.Bool.{Bool, true, false, cond, ◌&&◌}
use mathlib.Core.List.{List, [], ◌∷◌}
use lib.Dec.{T, eqb, leb, ltb, leb→le, ltb→lt}
use lib.Ieee.Fits.{and_l, and_r}
use lib.ListN.{length}
use Rattle.kind.specs.Kind.{number_of}
use Rattle.kind.specs.declared.Kind.{Kind}
use Rattle.names.specs.Names.{Called, is_word, text_at, groups, group_name, fields, other, family_of, called_in, called_at, name_of, default_text, group_of}

-- a test that all fields of a table pass, and any other column's, is passed by what is called there
module _ (test : Called → Bool) where
  abbrev each_passes : List Called → Bool
  each_passes [] = test other
  each_passes (f ∷ fs) = test f && each_passes fs

  called-passes : (fs : List Called) → T (each_passes fs) → (family column : ℕ) → T (test (called_in family column fs))
  called-passes [] h family column = h
  called-passes (f ∷ fs) h family column =
      go (eqb f.kind family && eqb f.column column) (and_l (test f) (each_passes fs) h)
      (called-passes fs (and_r (test f) (each_passes fs) h) family column)
    where
      go : (b : Bool) → T (test f) → T (test (called_in family column fs)) → T (test (cond b f (called_in family column fs)))
      go true p q = p
      go false p q = q

  each-called : T (each_passes fields) → (k : Kind) (column : ℕ) → T (test (called_at k column))
  each-called h k column = called-passes fields h (family_of (number_of k)) column

pub group-few : (k : Kind) (column : ℕ) → group_of k column < 20
unfolding fields group_of
group-few k column = ltb→lt (called_at k column).group 20 (each-called (λ f. ltb f.group 20) tt k column)

pub name-short : (k : Kind) (column : ℕ) → length (name_of k column) ≤ 32
unfolding fields name_of
name-short k column = leb→le (length (called_at k column).name) 32 (each-called (λ f. leb (length f.name) 32) tt k column)

pub default-short : (k : Kind) (column : ℕ) → length (default_text k column) ≤ 32
unfolding fields default_text
default-short k column = leb→le (length (called_at k column).default) 32 (each-called (λ f. leb (length f.default) 32) tt k column)

pub name-word : (k : Kind) (column : ℕ) → T (is_word (name_of k column))
unfolding fields name_of
name-word k column = each-called (λ f. is_word f.name) tt k column

pub default-word : (k : Kind) (column : ℕ) → T (is_word (default_text k column))
unfolding fields default_text
default-word k column = each-called (λ f. is_word f.default) tt k column

-- ---- groups
module _ (test : List ℕ → Bool) where
  abbrev texts_pass : List (List ℕ) → Bool
  texts_pass [] = test []
  texts_pass (t ∷ ts) = test t && texts_pass ts

  text-passes : (ts : List (List ℕ)) → T (texts_pass ts) → (place : ℕ) → T (test (text_at place ts))
  text-passes [] h place = h
  text-passes (t ∷ ts) h ℕ.zero = and_l (test t) (texts_pass ts) h
  text-passes (t ∷ ts) h (suc place) = text-passes ts (and_r (test t) (texts_pass ts) h) place

pub group-short : (group : ℕ) → length (group_name group) ≤ 32
unfolding group_name
group-short group = leb→le (length (text_at group groups)) 32 (text-passes (λ t. leb (length t) 32) groups tt group)

pub group-word : (group : ℕ) → T (is_word (group_name group))
unfolding group_name
group-word group = text-passes is_word groups tt group
