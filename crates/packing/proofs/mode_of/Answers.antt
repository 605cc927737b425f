-- `packing::mode_of` meets its contract: its test is that of the bit.
-- Assumes nothing.
use Prim.Native.Nat.{◌/◌, ◌%◌}
use borrow.Author.Tests.{eq-eqb, ne_eqb}
use Rattle.packing.specs.Options.{mode_of}
use Rattle.packing.proofs.mode_of.Goals as goal

pub returns-then-bits-eq1 : goal.returns-then-bits-eq1
unfolding mode_of
returns-then-bits-eq1 c = rw (eq-eqb (c.args.bits / 4 % 2) 1 c.if-bits-eq1.true)

pub returns : goal.returns
unfolding mode_of
returns c = rw (ne_eqb (c.args.bits / 4 % 2) 1 c.if-bits-eq1.false)
