-- The contract of each public function asks nothing and leaves one answer, with one content of all that is lent to be written.
-- Assumes nothing.
use mathlib.Core.Path.{refl}
use Rattle.single.specs.One.{One}
use Rattle.single.proofs.Laws.One.{equation}
use Rattle.header.specs.contracts as its

pub lex_header_one : One its.read.lex_header.ended (λ M 𝓤. its.read.lex_header.clauses)
lex_header_one w κs a g = equation w (λ u v. refl)

pub header_new_one : One its.record.Header.new.ended (λ M 𝓤. its.record.Header.new.clauses)
header_new_one w κs a g = equation w (λ u v. refl)

pub header_rows_one : One its.rows.header_rows.ended (λ M 𝓤. its.rows.header_rows.clauses)
header_rows_one w κs a g = equation w (λ u v. refl)
