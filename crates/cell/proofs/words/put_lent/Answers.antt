-- `cell::words::put_lent` meets its contract, by the code's tests.
-- Assumes nothing.
use mathlib.Core.Path.{refl, sym, ◌∙◌}
use native.Mathlib.Omega.{arith}
use Rattle.cell.proofs.Laws.Words.{lent_other, lent_odd, lent-whole}
use Rattle.cell.proofs.words.put_lent.Goals as goal

pub returns-then-bytes-width : goal.returns-then-bytes-width
returns-then-bytes-width c = lent_other _ _ _ _ _ (λ e. omega arith) c.put_none.ensures

pub returns-then-not-is_printable : goal.returns-then-not-is_printable
returns-then-not-is_printable c = lent_odd _ _ _ _ _ (omega arith) (sym c.is_printable.ensures ∙ c.if-not-is_printable.true) c.put_none-then-not-is_printable.ensures

pub returns : goal.returns
returns c =
    let printed = sym c.is_printable.ensures ∙ c.if-not-is_printable.false in
    lent-whole _ _ _ _ _ (omega arith) printed (record { puts = c.put_bytes.ensures; tells = refl })
