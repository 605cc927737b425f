-- The contract of each public function asks nothing and leaves one answer, with one content of all that is lent to be written.
-- Assumes nothing.
use mathlib.Core.Path.{refl}
use Rattle.single.specs.One.{One}
use Rattle.single.proofs.Laws.One.{equation}
use Rattle.dbref.specs.contracts as its

pub lex_dbref_one : One its.read.lex_dbref.ended (λ M 𝓤. its.read.lex_dbref.clauses)
lex_dbref_one w κs a g = equation w (λ u v. refl)

pub lex_dbref1_one : One its.read.lex_dbref1.ended (λ M 𝓤. its.read.lex_dbref1.clauses)
lex_dbref1_one w κs a g = equation w (λ u v. refl)

pub lex_dbref2_one : One its.read.lex_dbref2.ended (λ M 𝓤. its.read.lex_dbref2.clauses)
lex_dbref2_one w κs a g = equation w (λ u v. refl)

pub segment_new_one : One its.record.Segment.new.ended (λ M 𝓤. its.record.Segment.new.clauses)
segment_new_one w κs a g = equation w (λ u v. refl)

pub dbref_new_one : One its.record.Dbref.new.ended (λ M 𝓤. its.record.Dbref.new.clauses)
dbref_new_one w κs a g = equation w (λ u v. refl)

pub dbref1_new_one : One its.record.Dbref1.new.ended (λ M 𝓤. its.record.Dbref1.new.clauses)
dbref1_new_one w κs a g = equation w (λ u v. refl)

pub dbref1_end_one : One its.record.Dbref1.end.ended (λ M 𝓤. its.record.Dbref1.end.clauses)
dbref1_end_one w κs a g = equation w (λ u v. refl)

pub dbref2_new_one : One its.record.Dbref2.new.ended (λ M 𝓤. its.record.Dbref2.new.clauses)
dbref2_new_one w κs a g = equation w (λ u v. refl)

pub dbref_rows_one : One its.rows.dbref_rows.ended (λ M 𝓤. its.rows.dbref_rows.clauses)
dbref_rows_one w κs a g = equation w (λ u v. refl)

pub dbref1_rows_one : One its.rows.dbref1_rows.ended (λ M 𝓤. its.rows.dbref1_rows.clauses)
dbref1_rows_one w κs a g = equation w (λ u v. refl)

pub dbref2_rows_one : One its.rows.dbref2_rows.ended (λ M 𝓤. its.rows.dbref2_rows.clauses)
dbref2_rows_one w κs a g = equation w (λ u v. refl)
