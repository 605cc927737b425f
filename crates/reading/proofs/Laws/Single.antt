-- The contract of each public function asks nothing and leaves one answer, with one content of all that is lent to be written.
-- Assumes nothing.
use Rattle.single.specs.One.{One}
use Rattle.single.proofs.Laws.One.{leaves, lent_both}
use Rattle.reading.proofs.Laws.Read.{reads-one}
use Rattle.reading.specs.contracts as its

pub read_words_one : One its.read_words.ended (λ M 𝓤. its.read_words.clauses)
read_words_one w κs a g = leaves w (λ r s u v e f. lent_both 5 0 0 (reads-one e f))
