-- `audit::see::see_lines` meets its contract. The loop's invariant: with the lines that are left, what is known comes to what it does with all of
-- them.
-- Assumes nothing.
use mathlib.Core.Path.{refl, sym, ◌∙◌}
use native.Mathlib.Omega.{arith}
use Rattle.audit.proofs.Laws.Turn.{turn_end, turn-next, turn-moves}
use borrow.Author.Rules.{rules}
use Rattle.audit.proofs.see.see_lines.Goals as goal

pub loop-here-init : goal.loop-here-init
loop-here-init c = refl

pub returns : goal.returns
returns c = turn_end _ _ _ _ c.loop-here.invariant (sym c.step.ensures ∙ c.in_default.is)

pub overflow_sub-here : goal.overflow_sub-here
overflow_sub-here c =
    let moves = turn-moves _ _ c.in-Some.here (sym c.step.ensures ∙ c.in-Some.is) in
    search rules

pub loop-here-smaller : goal.loop-here-smaller
loop-here-smaller c = omega (arith, turn-moves _ _ c.in-Some.here (sym c.step.ensures ∙ c.in-Some.is))

pub loop-here-preserved : goal.loop-here-preserved
loop-here-preserved c = turn-next _ _ _ _ c.loop-here.invariant c.in-Some.here _ _ (sym c.step.ensures ∙ c.in-Some.is) c.line-text.ensures c.see_line-w.ensures
