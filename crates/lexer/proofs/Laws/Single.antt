-- The contract of each public function asks nothing and leaves one answer, with one content of all that is lent to be written.
-- Assumes nothing.
use mathlib.Core.Path.{refl}
use Rattle.single.specs.One.{One}
use Rattle.single.proofs.Laws.One.{equation}
use Rattle.lexer.specs.contracts as its

pub excess-one : One its.excess.ended (λ M 𝓤. its.excess.clauses)
excess-one w κs a g = equation w (λ u v. refl)

pub kind_line_one : One its.kind_line.ended (λ M 𝓤. its.kind_line.clauses)
kind_line_one w κs a g = equation w (λ u v. refl)

pub read_line_as_one : One its.read_line_as.ended (λ M 𝓤. its.read_line_as.clauses)
read_line_as_one w κs a g = equation w (λ u v. refl)

pub lex_line_one : One its.lex_line.ended (λ M 𝓤. its.lex_line.clauses)
lex_line_one w κs a g = equation w (λ u v. refl)
