-- `pdbreport::tell_last` meets its contract: by whether a byte came.
-- Assumes nothing.
use mathlib.Core.Path.{refl}
use borrow.Author.Tests.{eq-eqb, ne_eqb}
use Rattle.pdbreport.specs.Fed.{last_ledger}
use Rattle.pdbreport.specs.Fed.Ends.{by_end}
use Rattle.pdbreport.proofs.tell_last.Goals as goal

pub returns-then-held-eq0 : goal.returns-then-held-eq0
unfolding last_ledger
returns-then-held-eq0 g c = rw (eq-eqb _ _ c.if-held-eq0.true) refl

pub tell_held-requires : goal.tell_held-requires
tell_held-requires g c = (c.requires, by_end refl c.if-held-eq0.false)

pub returns : goal.returns
unfolding last_ledger
returns g c = rw (ne_eqb _ _ c.if-held-eq0.false) c.tell_held.ensures
