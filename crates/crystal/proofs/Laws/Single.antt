-- The contract of each public function asks nothing and leaves one answer, with one content of all that is lent to be written.
-- Assumes nothing.
use mathlib.Core.Path.{refl}
use Rattle.single.specs.One.{One}
use Rattle.single.proofs.Laws.One.{equation}
use Rattle.crystal.specs.contracts as its

pub lex_cryst_one : One its.read.lex_cryst.ended (λ M 𝓤. its.read.lex_cryst.clauses)
lex_cryst_one w κs a g = equation w (λ u v. refl)

pub cell_new_one : One its.record.Cell.new.ended (λ M 𝓤. its.record.Cell.new.clauses)
cell_new_one w κs a g = equation w (λ u v. refl)

pub crystal_new_one : One its.record.Crystal.new.ended (λ M 𝓤. its.record.Crystal.new.clauses)
crystal_new_one w κs a g = equation w (λ u v. refl)

pub crystal_rows_one : One its.rows.crystal_rows.ended (λ M 𝓤. its.rows.crystal_rows.clauses)
crystal_rows_one w κs a g = equation w (λ u v. refl)
