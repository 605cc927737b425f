-- `number::word::read_word` meets its contract: whatever was guessed, the tests leave room for what is added up.
-- Assumes nothing.
use native.Mathlib.Omega.{arith}
use lib.Bits.{bit_xor}
use Rattle.number.specs.Word.{bytes_in}
use Rattle.number.proofs.Laws.Shape.{sum_fits, over-fits, code_first, code_second, code_minus, code_plus, value-fits}
use Rattle.number.proofs.word.read_word.Goals as goal

pub returns-then-over-ne0 : goal.returns-then-over-ne0
returns-then-over-ne0 c = code_first c.args.word c.guess.result c.packed-shape.result c.packed-shape.ensures c.ranges.word.fits c.guess.ensures c.if-over-ne0.true

pub overflow_add-over : goal.overflow_add-over
overflow_add-over c = omega (arith, sum_fits c.args.word c.guess.result c.packed-shape.result c.packed-shape.ensures c.ranges.word.fits c.if-over-ne0.false)

pub returns-then-over-slack-ne0 : goal.returns-then-over-slack-ne0
returns-then-over-slack-ne0 c = code_second c.args.word c.guess.result c.packed-shape.result c.packed-shape.ensures c.ranges.word.fits c.guess.ensures c.if-over-ne0.false c.if-over-slack-ne0.true

pub fours-value-requires : goal.fours-value-requires
fours-value-requires c = over-fits c.args.word c.guess.result c.packed-shape.result c.packed-shape.ensures c.ranges.word.fits c.if-over-ne0.false c.if-over-slack-ne0.false

pub overflow_add-result : goal.overflow_add-result
overflow_add-result c = omega (arith, value-fits c.fours-value.result (bit_xor c.args.word (bytes_in c.packed-shape.result)) c.fours-value.ensures)

pub returns-then-bytes-ne0 : goal.returns-then-bytes-ne0
returns-then-bytes-ne0 c = rw c.fours-value.ensures (code_minus c.args.word c.guess.result c.packed-shape.result c.packed-shape.ensures c.ranges.word.fits c.guess.ensures c.if-over-ne0.false c.if-over-slack-ne0.false c.if-bytes-ne0.true)

pub returns : goal.returns
returns c = rw c.fours-value.ensures (code_plus c.args.word c.guess.result c.packed-shape.result c.packed-shape.ensures c.ranges.word.fits c.guess.ensures c.if-over-ne0.false c.if-over-slack-ne0.false c.if-bytes-ne0.false)
