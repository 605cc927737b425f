-- `kind::name::name_of` meets its contract: a row's name is the one at its number's place.
-- Assumes nothing.
use mathlib.Core.Path.{◌≡◌, sym, ap, ◌∙◌}
use mathlib.Core.List.{List}
use Prim.Native.Nat.{ℕ}
use Rattle.kind.specs.Name.{name_of}
use Rattle.kind.specs.declared.Kind.{Kind}
use Rattle.kind.proofs.Laws.Name.{row-name}
use Rattle.kind.proofs.name.name_of.Goals as goal

told : {j k : Kind} {n : List ℕ} → j ≡ k → n ≡ name_of k → n ≡ name_of j
told e name = name ∙ ap name_of (sym e)

pub returns-in-Scale : goal.returns-in-Scale
returns-in-Scale c = told c.in-Scale.is (c.of_row.ensures ∙ row-name _ 7)

pub returns-in-Origx : goal.returns-in-Origx
returns-in-Origx c = told c.in-Origx.is (c.of_row-in-Origx.ensures ∙ row-name _ 10)

pub returns-in-Mtrix : goal.returns-in-Mtrix
returns-in-Mtrix c = told c.in-Mtrix.is (c.of_row-in-Mtrix.ensures ∙ row-name _ 13)
