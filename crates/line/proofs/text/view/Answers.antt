-- `line::text::view` meets its contract: each arm of its two matches is a clause of `view_of`.
-- Assumes nothing.
use mathlib.Core.Path.{refl}
use Rattle.line.proofs.text.view.Goals as goal

pub returns-in-Words : goal.returns-in-Words
returns-in-Words c = rw c.in-Words.is c.within.ensures

pub returns-in-At : goal.returns-in-At
returns-in-At c = rw (c.in-One.is, c.in-At.is) c.within-in-At.ensures

pub returns-in-Unreached : goal.returns-in-Unreached
returns-in-Unreached c = rw (c.in-One.is, c.in-Unreached.is) refl

pub returns-in-Absent : goal.returns-in-Absent
returns-in-Absent c = rw (c.in-One.is, c.in-Absent.is) refl
