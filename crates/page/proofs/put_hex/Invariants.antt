-- `page::put_hex` meets its contract. The loop's invariant: the digits of the rest in front of those gathered are the number's.
-- Assumes nothing.
use mathlib.Core.Path.{◌≡◌}
use lib.ListN.{length, drop}
use Rattle.page.specs.Numerals.{hex_before, hex16}
use Rattle.page.proofs.put_hex.Given as goal

abbrev pub invariant-loop-i : goal.invariant-loop-i
invariant-loop-i l = (length l.text ≡ 16) × (hex_before l.i l.rest (drop l.i l.text) ≡ hex16 l.bits)
