-- `lexitem::fault::picked` meets its contract.
-- Assumes nothing.
use mathlib.Core.Path.{sym, ◌∙◌}
use native.Mathlib.Omega.{arith}
use lib.ListN.{get_or-eq_default}
use Rattle.lexitem.proofs.fault.picked.Goals as goal

pub returns : goal.returns
returns c =
    let whole = c.well_formed in
    c.new.ensures ∙ sym (get_or-eq_default c.args.list _ (omega arith))
