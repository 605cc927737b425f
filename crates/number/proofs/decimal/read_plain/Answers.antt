-- `number::decimal::read_plain` meets its contract: the byte behind the first run is the point, or there is none.
-- Assumes nothing.
use native.Mathlib.Omega.{arith}
use Rattle.number.proofs.Laws.Decimal.{plain-none, plain-whole, plain_other, plain-point, plain-short, plain-both}
use Rattle.number.proofs.Laws.Trim.{rest-next}
use Rattle.number.proofs.decimal.read_plain.Goals as goal

pub returns-then-i-eq0 : goal.returns-then-i-eq0
returns-then-i-eq0 c = plain-none _ _ (omega arith)

pub returns-then-text-i : goal.returns-then-text-i
returns-then-text-i c = plain-whole _ _ _ c.read_run-first.ensures (omega arith) c.if-text-i.true

pub returns-then-text-i-ne46 : goal.returns-then-text-i-ne46
returns-then-text-i-ne46 c = plain_other _ _ _ c.read_run-first.ensures c.if-text-i.false (omega arith) c.if-text-i-ne46.true

pub returns-then-text-lt2 : goal.returns-then-text-lt2
returns-then-text-lt2 c = plain-point _ _ _ c.read_run-first.ensures c.if-text-i.false c.if-text-i-ne46.false (omega arith)

pub returns-then-second-rest : goal.returns-then-second-rest
returns-then-second-rest c =
    let point = c.if-text-i-ne46.false in
    let run = rw rest-next at c.read_run-second.ensures in
    plain-short _ _ _ c.read_run-first.ensures c.if-text-i.false point _ run (omega arith)
    (rw rest-next at c.if-second-rest.true)

pub returns : goal.returns
returns c =
    let point = c.if-text-i-ne46.false in
    let run = rw rest-next at c.read_run-second.ensures in
    rw rest-next
    (plain-both _ _ _ c.read_run-first.ensures c.if-text-i.false point _ run (omega arith)
    (rw rest-next at c.if-second-rest.false))
