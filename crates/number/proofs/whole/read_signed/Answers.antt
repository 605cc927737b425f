-- `number::whole::read_signed` meets its contract: the digits are read as U, and I is what that says behind the sign.
-- Assumes nothing.
use mathlib.Core.Path.{refl, sym, ◌∙◌}
use Rattle.std.specs.Prelude.{Some, None}
use Rattle.number.proofs.Laws.Signed.{signed-of}
use Rattle.number.proofs.whole.read_signed.Goals as goal

pub returns-in_err-n : goal.returns-in_err-n
returns-in_err-n c = c.from_residual.ensures ∙ signed-of _ _ _ _ None c.trim-t.ensures c.after_sign.ensures refl c.in_err-n.ensures

pub returns : goal.returns
returns c =
    c.with_sign.ensures
    ∙ signed-of _ _ _ c.begins.result (Some _) c.trim-t.ensures c.after_sign.ensures c.begins.ensures c.in_ok-n.ensures
