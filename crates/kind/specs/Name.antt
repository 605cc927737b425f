-- "Record names have no blanks." A kind's name is the one at its number's place in the list of names.
use Rattle.std.specs.Prelude.{ℕ, suc, Bool, false, cond, List, [], ◌∷◌, eqb}
use Rattle.kind.specs.Kind.{Named, names, number_of}
use Rattle.kind.specs.declared.Kind.{Kind}

abbrev pub name_at : ℕ → List Named → List ℕ
name_at place [] = []
name_at ℕ.zero (n ∷ t) = n.name
name_at (suc place) (n ∷ t) = name_at place t

-- whether atoms only keeps a kind: the word beside its name
abbrev pub kept_at : ℕ → List Named → Bool
kept_at place [] = false
kept_at ℕ.zero (n ∷ t) = n.is_kept
kept_at (suc place) (n ∷ t) = kept_at place t

abbrev pub kept_by_atoms : Kind → Bool
kept_by_atoms k = kept_at (number_of k) names

-- what stands before the first blank
abbrev pub word : List ℕ → List ℕ
word [] = []
word (b ∷ t) = cond (eqb b 32) [] (b ∷ word t)

abbrev pub name_of : Kind → List ℕ
name_of k = word (name_at (number_of k) names)

-- a row's name among three, and none for any other
abbrev pub row_name : ℕ → List ℕ → List ℕ → List ℕ → List ℕ
row_name row first second third = cond (eqb row 0) first (cond (eqb row 1) second (cond (eqb row 2) third []))
