-- The contract of each public function asks nothing and leaves one answer, with one content of all that is lent to be written.
-- Assumes nothing.
use mathlib.Core.Path.{refl}
use Rattle.single.specs.One.{One}
use Rattle.single.proofs.Laws.One.{equation}
use Rattle.atom.specs.contracts as its

pub lex_atom_one : One its.read.lex_atom.ended (λ M 𝓤. its.read.lex_atom.clauses)
lex_atom_one w κs a g = equation w (λ u v. refl)

pub lex_anisou_one : One its.read.lex_anisou.ended (λ M 𝓤. its.read.lex_anisou.clauses)
lex_anisou_one w κs a g = equation w (λ u v. refl)

pub basics_new_one : One its.record.Basics.new.ended (λ M 𝓤. its.record.Basics.new.clauses)
basics_new_one w κs a g = equation w (λ u v. refl)

pub position_new_one : One its.record.Position.new.ended (λ M 𝓤. its.record.Position.new.clauses)
position_new_one w κs a g = equation w (λ u v. refl)

pub atom_new_one : One its.record.Atom.new.ended (λ M 𝓤. its.record.Atom.new.clauses)
atom_new_one w κs a g = equation w (λ u v. refl)

pub factors_new_one : One its.record.Factors.new.ended (λ M 𝓤. its.record.Factors.new.clauses)
factors_new_one w κs a g = equation w (λ u v. refl)

pub anisou_new_one : One its.record.Anisou.new.ended (λ M 𝓤. its.record.Anisou.new.clauses)
anisou_new_one w κs a g = equation w (λ u v. refl)

pub atom_rows_one : One its.rows.atom_rows.ended (λ M 𝓤. its.rows.atom_rows.clauses)
atom_rows_one w κs a g = equation w (λ u v. refl)

pub anisou_rows_one : One its.rows.anisou_rows.ended (λ M 𝓤. its.rows.anisou_rows.clauses)
anisou_rows_one w κs a g = equation w (λ u v. refl)
