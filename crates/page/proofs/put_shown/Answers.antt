-- `page::put_shown` meets its contract: a byte that doesn't stand as itself is three puts, one behind the other.
-- Assumes nothing.
use mathlib.Core.Path.{sym, ◌∙◌}
use Rattle.page.proofs.Laws.Escaped.{shown-three}
use Rattle.page.specs.Numerals.{shown}
use Rattle.page.proofs.put_shown.Goals as goal

pub returns-then-is_plain : goal.returns-then-is_plain
unfolding shown
returns-then-is_plain c = rw (sym c.is_plain.ensures ∙ c.if-is_plain.true) c.put_byte.ensures

pub returns : goal.returns
returns c =
    shown-three _ _ _ _ _ _ _
    (sym c.is_plain.ensures ∙ c.if-is_plain.false)
    c.put_byte-high.ensures
    c.hex_digit.ensures
    c.put_byte-low.ensures
    c.hex_digit-2.ensures
    c.put_byte-2.ensures
