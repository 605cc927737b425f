-- `walker::lines::has_lf` meets its contract. The loop's invariant: what was found with what is still to be looked at gives what all gives.
-- Assumes nothing.
use borrow.Author.Rules.{rules}
use Rattle.walker.proofs.Laws.Blocks.{lf_hit, lf-miss, lf-all}
use Rattle.walker.proofs.lines.has_lf.Goals as goal
use Rattle.walker.proofs.lines.has_lf.Goals.{then-b-eq10, else-b-eq10}

pub loop-b-preserved : goal.loop-b-preserved
loop-b-preserved c = let t = c.args.bytes.now in
    let loop = c.loop-b in
    elim c.if-b-eq10.branch [
      | then-b-eq10 w ↦ lf_hit t loop.b-index (search rules) loop.found loop.invariant _ w.if-b-eq10.true w.found-is
      | else-b-eq10 w ↦ lf-miss t loop.b-index (search rules) loop.found loop.invariant _ w.if-b-eq10.false w.found-is
    ]

pub returns : goal.returns
returns c = lf-all _ _ _ (search rules) c.loop-b.invariant
