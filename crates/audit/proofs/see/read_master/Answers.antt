-- `audit::see::read_master` meets its contract: by the faults, and then by the outcome.
-- Assumes nothing.
use Rattle.audit.proofs.Laws.Said.{fault-unread, read-said}
use Rattle.audit.proofs.see.read_master.Goals as goal

pub returns-then-answer-ne0 : goal.returns-then-answer-ne0
returns-then-answer-ne0 c = fault-unread _ _ c.lex_line-answer.ensures c.if-answer-ne0.true

pub returns : goal.returns
returns c = read-said _ _ c.lex_line-answer.ensures _ c.requires c.if-answer-ne0.false c.said_in.ensures
