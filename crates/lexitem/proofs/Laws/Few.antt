-- "ANISOU can give fifteen faults and no kind gives more": on every line, in either mode. An ANISOU has sixteen fields; its charge faults only from
-- 80 bytes on, and its texts only before.
--     faults_fifteen     a line of a kind has at most fifteen faults
-- Assumes nothing.
use Prim.Native.Nat.{◌≤◌}
use mathlib.Core.Path.{◌≡◌, refl}
use mathlib.Core.Bool.{Bool, true, false, ◌&&◌}
use mathlib.Core.List.{List}
use native.Mathlib.Omega.{arith}
use borrow.Author.Tests.{leb-true, leb-false}
use lib.ListN.{length}
use lib.Dec.{T, leb, leb→le}
use lib.Ieee.Fits.{and_l, and_r}
use Rattle.line.specs.Given.{Given}
use Rattle.field.specs.Table.{Entry}
use Rattle.field.proofs.Laws.Few.{Ends, loud, table-most}
use Rattle.kind.specs.declared.Kind.{Kind}
use Rattle.lexitem.specs.Describe.{describe, fields_by, faults_of}
use Rattle.lexitem.proofs.Laws.Kinds.{by_table}

-- a table that has at most fifteen, in lines of 80 bytes or more or in shorter ones
abbrev few : Bool → List Entry → Bool
few long table = leb (loud 80 long table) 15

module _ (k : Kind) (g : Given) where
  passes : T (few true (fields_by k g) && few false (fields_by k g))
  passes = by_table (λ table. few true table && few false table) tt g.options.mode k ((describe k).part g.line)

  at_most : (long : Bool) → Ends 80 long g.line → T (few long (fields_by k g)) → length (faults_of k g) ≤ 15
  unfolding faults_of
  at_most long h p = omega (arith, table-most 80 long g h (fields_by k g), leb→le (loud 80 long (fields_by k g)) 15 p)

  pub faults_fifteen : length (faults_of k g) ≤ 15
  faults_fifteen = go (leb 80 (length g.line)) refl
    where
      go : (b : Bool) → leb 80 (length g.line) ≡ b → length (faults_of k g) ≤ 15
      go true e = at_most true (leb-true 80 (length g.line) e) (and_l (few true (fields_by k g)) (few false (fields_by k g)) passes)
      go false e = at_most false (leb-false 80 (length g.line) e) (and_r (few true (fields_by k g)) (few false (fields_by k g)) passes)
