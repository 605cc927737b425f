-- `account::head::put_atom` meets its contract.
-- Assumes nothing.
use Rattle.page.proofs.Laws.Page.{put_then}
use Rattle.account.specs.Account.{atom_words}
use Rattle.account.proofs.head.put_atom.Goals as goal

pub returns : goal.returns
unfolding atom_words
returns c =
    put_then _ _ _ _ _ (put_then _ _ _ _ _ (put_then _ _ _ _ _ (put_then _ _ _ _ _ c.put_part-name.ensures
    c.put_part-residue.ensures)
    c.put_part-chain.ensures)
    c.put_part-number.ensures)
    c.put_part.ensures
