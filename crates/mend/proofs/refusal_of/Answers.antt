-- `mend::refusal_of` meets its contract.
-- Assumes nothing.
use mathlib.Core.Path.{ap, ◌∙◌}
use native.Mathlib.Omega.{arith}
use Rattle.std.specs.Prelude.{Some}
use Rattle.lexitem.specs.Answer.{refusal}
use Rattle.lexitem.specs.declared.answer.Refusal.{Refusal}
use Rattle.mend.proofs.Laws.Mended.{pad_within}
use Rattle.mend.proofs.Laws.Answers.{why-long, why-room, why-none}
use Rattle.mend.proofs.refusal_of.Goals as goal

pub returns-then-n-gt1024 : goal.returns-then-n-gt1024
returns-then-n-gt1024 c = ap (λ (r : Refusal). Some r) (c.new.ensures ∙ ap (refusal 2 1024) c.excess.ensures) ∙ why-long _ _ c.if-n-gt1024.true

pub overflow_add-size : goal.overflow_add-size
overflow_add-size c = omega (arith, pad_within c.args.line.now c.if-n-gt1024.false, c.padding.ensures)

pub returns-then-room-size : goal.returns-then-room-size
returns-then-room-size c = ap (λ (r : Refusal). Some r) c.new-then-room-size.ensures ∙ why-room _ _ _ c.if-n-gt1024.false c.padding.ensures c.if-room-size.true

pub returns : goal.returns
returns c = why-none _ _ _ c.if-n-gt1024.false c.padding.ensures c.if-room-size.false
