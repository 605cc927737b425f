-- The contract of each public function asks nothing and leaves one answer, with one content of all that is lent to be written.
-- Assumes nothing.
use Rattle.single.specs.One.{One}
use Rattle.single.proofs.Laws.One.{leaves, lent}
use Rattle.sheet.proofs.Laws.One.{writes_one}
use Rattle.writer.specs.contracts as its

pub write_record_one : One its.write_record.ended (λ M 𝓤. its.write_record.clauses)
write_record_one w κs a g = leaves w (λ r s u v e f. lent 5 0 (writes_one e f))

pub write_as_read_one : One its.write_as_read.ended (λ M 𝓤. its.write_as_read.clauses)
write_as_read_one w κs a g = leaves w (λ r s u v e f. lent 4 0 (writes_one e f))
