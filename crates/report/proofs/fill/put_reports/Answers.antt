-- `report::fill::put_reports` meets its contract: each turn puts one report behind those that were put (Laws.Turn), and stands further on in
-- the file.
-- Assumes nothing.
use mathlib.Core.Path.{sym, ◌∙◌}
use native.Mathlib.Omega.{arith}
use Rattle.report.proofs.Laws.Turn.{so-first, so-full, so-end, so-next, step-further}
use Rattle.report.proofs.fill.put_reports.Goals as goal

pub loop-out-init : goal.loop-out-init
loop-out-init c = so-first _ _ _ _

pub returns-in_default : goal.returns-in_default
returns-in_default c = so-end _ _ _ _ _ _ _ _ c.loop-out.invariant (sym c.step.ensures ∙ c.in_default.is)

pub loop-out-smaller : goal.loop-out-smaller
loop-out-smaller c = omega (arith, step-further _ _ _ (sym c.step.ensures ∙ c.in-Some.is))

pub loop-out-preserved : goal.loop-out-preserved
loop-out-preserved c =
    rw c.following.ensures
    (so-next _ _ _ _ _ _ _ _ c.loop-out.invariant _ _ _
    (omega (arith, c.loop-out.invariant.size, c.loop-out-test.true))
    (sym c.step.ensures ∙ c.in-Some.is)
    (rw c.line-text.ensures at c.put_behind-more.ensures))

pub returns : goal.returns
returns c = so-full _ _ _ _ _ _ _ _ c.loop-out.invariant (omega (arith, c.loop-out.invariant.size, c.loop-out-test.false))
