-- `real::quick_real` meets its contract: what is read of a text as a word is what the text says.
-- Assumes nothing.
use Rattle.real.proofs.Laws.Real.{eight_real, six-real}
use Rattle.real.proofs.quick_real.Goals as goal

pub returns-then-text-eq8 : goal.returns-then-text-eq8
returns-then-text-eq8 c = rw (c.coded.ensures, c.read_word.ensures, c.eight.ensures) (eight_real c.args.text.now)

pub returns-then-text-eq6 : goal.returns-then-text-eq6
returns-then-text-eq6 c = rw (c.coded-then-text-eq6.ensures, c.read_word-then-text-eq6.ensures, c.six.ensures) (six-real c.args.text.now)
