-- `tally::names::name_key` meets its contract: the six bytes, one by one.
-- Assumes nothing.
use borrow.Author.Rules.{rules}
use Rattle.tally.proofs.Laws.Name.{padded-reads}
use Rattle.tally.proofs.names.name_key.Goals as goal

pub returns : goal.returns
returns c =
    rw (
      padded-reads c.args.line.now,
      ← c.byte_or_blank.ensures,
      ← c.byte_or_blank-2.ensures,
      ← c.byte_or_blank-3.ensures,
      ← c.byte_or_blank-4.ensures,
      ← c.byte_or_blank-5.ensures,
      ← c.byte_or_blank-6.ensures,
    )
    (search rules)
