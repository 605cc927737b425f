-- `ledger::accepted::any_at` meets its contract: `any` answers whether one of the faults is such.
-- Assumes nothing.
use mathlib.Core.Path.{◌∙◌}
use borrow.Author.Rules.{rules}
use borrow.Author.Tests.{tests}
use Rattle.std.proofs.lemmas.Iterator.{YieldsList-from_slice}
use Rattle.std.proofs.lemmas.Iterator.Search.{any_from_yields_List}
use Rattle.ledger.specs.Ledger.{is_at}
use Rattle.ledger.proofs.Laws.Turns.{any-same}
use Rattle.ledger.proofs.accepted.any_at.Goals as goal

pub returns : goal.returns
returns c =
    let a = c.args in
    any_from_yields_List (is_at a.number a.low a.high) _ _ c.any.result c.any.ensures.ran
    (YieldsList-from_slice a.faults.now c.iter.ensures.rest) (λ x b q k. search (rules, tests))
    ∙ any-same (is_at a.number a.low a.high) a.faults.now
