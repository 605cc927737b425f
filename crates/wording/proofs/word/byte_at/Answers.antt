-- `wording::word::byte_at` meets its contract.
-- Assumes nothing.
use mathlib.Core.Path.{sym, ◌∙◌}
use lib.ListN.{get_or-eq_default}
use Rattle.wording.proofs.Laws.Words.{read-any}
use Rattle.wording.proofs.word.byte_at.Goals as goal

pub returns-then-place-line : goal.returns-then-place-line
returns-then-place-line c = c.wide.ensures ∙ read-any c.args.line.now _ _ 256 c.if-place-line.true

pub returns : goal.returns
returns c = sym (get_or-eq_default c.args.line.now 256 c.if-place-line.false)
