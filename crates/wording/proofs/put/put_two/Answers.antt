-- `wording::putput_two` meets its contract.
-- Assumes nothing.
use mathlib.Core.Path.{refl}
use native.Mathlib.Numerals.{add-one}
use native.Mathlib.Omega.{arith}
use lib.ListN.{length-set}
use Rattle.wording.proofs.put.put_two.Goals as goal

pub bounds-out-at-2 : goal.bounds-out-at-2
bounds-out-at-2 c = let room = c.requires in simp length-set (omega arith)

pub returns : goal.returns
returns c = record { behind = refl; stands = rw (add-one c.args.at) refl }
