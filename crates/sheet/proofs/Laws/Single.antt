-- The contract of each public function asks nothing and leaves one answer, with one content of all that is lent to be written.
-- Assumes nothing.
use Rattle.single.specs.One.{One}
use Rattle.single.proofs.Laws.One.{leaves, lent}
use Rattle.sheet.proofs.Laws.One.{draft-one, ends-one}
use Rattle.sheet.specs.contracts as its

pub begin-one : One its.begin.ended (λ M 𝓤. its.begin.clauses)
begin-one w κs a g = leaves w (λ r s u v e f. lent 0 1 (draft-one e f))

pub draw_figure_one : One its.draw_figure.ended (λ M 𝓤. its.draw_figure.clauses)
draw_figure_one w κs a g = leaves w (λ r s u v e f. lent 0 3 (draft-one e f))

pub draw_words_one : One its.draw_words.ended (λ M 𝓤. its.draw_words.clauses)
draw_words_one w κs a g = leaves w (λ r s u v e f. lent 0 4 (draft-one e f))

pub draw_lent_one : One its.draw_lent.ended (λ M 𝓤. its.draw_lent.clauses)
draw_lent_one w κs a g = leaves w (λ r s u v e f. lent 0 3 (draft-one e f))

pub rule_off_one : One its.rule_off.ended (λ M 𝓤. its.rule_off.clauses)
rule_off_one w κs a g = leaves w (λ r s u v e f. lent 0 1 (draft-one e f))

pub end-one : One its.end.ended (λ M 𝓤. its.end.clauses)
end-one w κs a g = leaves w (λ r s u v e f. lent 0 2 (ends-one e f))
