-- `reading::room_refusal` meets its contract.
-- Assumes nothing.
use mathlib.Core.Path.{refl}
use native.Mathlib.Omega.{arith}
use borrow.Author.Tests.{lt-ltb, le-ltb}
use Rattle.reading.proofs.room_refusal.Goals as goal

pub returns-then-room-lt34 : goal.returns-then-room-lt34
returns-then-room-lt34 c = let a = c.args in rw (lt-ltb a.room 34 (omega arith)) refl

pub returns-then-other-lt31 : goal.returns-then-other-lt31
returns-then-other-lt31 c = let a = c.args in rw (le-ltb a.room 34 (omega arith), lt-ltb a.other 31 (omega arith)) refl

pub returns : goal.returns
returns c = let a = c.args in rw (le-ltb a.room 34 (omega arith), le-ltb a.other 31 (omega arith)) refl
