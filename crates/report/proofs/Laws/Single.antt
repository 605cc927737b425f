-- The contract of each public function asks nothing and leaves one answer, with one content of all that is lent to be written.
-- Assumes nothing.
use Rattle.single.specs.One.{One}
use Rattle.single.proofs.Laws.One.{leaves, lent}
use Rattle.page.proofs.Laws.Single.{page-one}
use Rattle.report.proofs.Laws.One.{fills_one}
use Rattle.report.specs.contracts as its

pub put_line_one : One its.fill.put_line.ended (λ M 𝓤. its.fill.put_line.clauses)
put_line_one w κs a g = leaves w (λ r s u v e f. lent 2 0 (page-one e f))

pub put_reports_one : One its.fill.put_reports.ended (λ M 𝓤. its.fill.put_reports.clauses)
put_reports_one w κs a g = leaves w (λ r s u v e f. lent 3 0 (fills_one e f))

pub put_refused_one : One its.put_refused.ended (λ M 𝓤. its.put_refused.clauses)
put_refused_one w κs a g = leaves w (λ r s u v e f. lent 0 3 (page-one e f))

pub put_report_one : One its.put_report.ended (λ M 𝓤. its.put_report.clauses)
put_report_one w κs a g = leaves w (λ r s u v e f. lent 4 0 (page-one e f))
