-- `ledger::has_cr` meets its contract: `any` answers whether one of the first 1,024 bytes is a CR.
-- Assumes nothing.
use mathlib.Core.Path.{◌∙◌}
use borrow.Author.Rules.{rules}
use borrow.Author.Tests.{tests}
use lib.ListN.{take}
use Rattle.std.proofs.lemmas.Iterator.{YieldsList-from_slice, YieldsList-from_take}
use Rattle.std.proofs.lemmas.Iterator.Search.{any_from_yields_List}
use Rattle.ledger.specs.Ledger.{is_cr}
use Rattle.ledger.proofs.Laws.Turns.{any-same}
use Rattle.ledger.proofs.has_cr.Goals as goal

pub returns : goal.returns
returns c =
    any_from_yields_List is_cr _ _ c.any.result c.any.ensures.ran
    (YieldsList-from_take 1024 (YieldsList-from_slice c.args.line.now (cc)) c.take.ensures.count)
    (λ x b q k. search (rules, tests))
    ∙ any-same is_cr (take 1024 c.args.line.now)
