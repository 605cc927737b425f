-- `cell::put_real` meets its contract: a decimal of more than nine places there is none, and any other is put.
-- Assumes nothing.
use mathlib.Core.Path.{sym, ◌∙◌}
use Rattle.cell.proofs.Laws.Places.{places-few, placed}
use Rattle.cell.proofs.put_real.Goals as goal

pub returns-in_default : goal.returns-in_default
returns-in_default c = rw (sym c.round_to.ensures ∙ c.in_default.is) c.put_none.ensures

pub put_decimal-requires : goal.put_decimal-requires
put_decimal-requires c =
    let (few, is) = placed _ _ _ _ (sym c.round_to.ensures ∙ c.in-Some.is) in
    record { q_bound = few; digits_bound = places-few _ _ _ _ is }

pub returns : goal.returns
returns c = rw (sym c.round_to.ensures ∙ c.in-Some.is) c.put_decimal.ensures
