-- `repair::rows::put_changes` meets its contract.
-- Assumes nothing.
use mathlib.Core.Path.{◌≡◌}
use lib.ListN.{length, drop}
use Rattle.page.specs.Page.{page, put}
use Rattle.repair.specs.Rows.{word_rows}
use Rattle.repair.proofs.rows.put_changes.Given as goal

abbrev pub invariant-loop-word : goal.invariant-loop-word
invariant-loop-word l =
    (length l.rows ≡ length l.initial.rows)
    × (put (page l.rows l.next) (word_rows l.number (drop l.word-index l.words)) ≡ put (page l.initial.rows l.at) (word_rows l.number l.words))
