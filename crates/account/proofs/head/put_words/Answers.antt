-- `account::head::put_words` meets its contract.
-- Assumes nothing.
use native.Mathlib.Omega.{arith}
use Rattle.account.proofs.Laws.Parts.{words-few, words_more, words-atom}
use Rattle.account.proofs.head.put_words.Goals as goal

pub returns-in-3-to-5 : goal.returns-in-3-to-5
returns-in-3-to-5 c = words-atom _ _ _ c.number_of.ensures _ _ (omega arith) (omega arith) c.put_atom.ensures

pub returns-in_default : goal.returns-in_default
returns-in_default c = words-few _ _ _ c.number_of.ensures _ (omega arith)

pub returns-in_default-2 : goal.returns-in_default-2
returns-in_default-2 c = words_more _ _ _ c.number_of.ensures _ (omega arith) (omega arith)
