-- `walker::lines::free_blocks` meets its contract: a block without an LF is passed, and what is left for the blocks is what follows it.
-- Assumes nothing.
use Rattle.std.proofs.Common.{sym, ◌∙◌, arith, ◌≡◌, length}
use Rattle.walker.proofs.Laws.Blocks.{block_free}
use Rattle.walker.proofs.lines.free_blocks.Goals as goal

pub loop-block-init : goal.loop-block-init
loop-block-init c =
    let e = c.chunks_exact-block-items.ensures in
    let same = c.into_iter-block-iterator.ensures.into_iter_gives in
    let size = e.size in
    rw same (omega arith, tt, size, e.rest, omega arith, omega arith)

pub loop-block-preserved : goal.loop-block-preserved
loop-block-preserved c =
    let t = c.args.rest.now in
    let i = c.loop-block.invariant in
    let s = c.in-Some.ensures.steps in
    let x = c.in-Some.block.now in
    let l : length x ≡ 16 = s.1.1 ∙ i.2 in
    let b = block_free t x _ c.loop-block.n (sym s.1.0 ∙ i.3) i.4 (sym c.has_lf.ensures ∙ c.if-has_lf.false) in
    let size = s.0 ∙ i.2 in
    (omega arith, tt, size, rw l at b.0, omega arith, rw l at (b.2 ∙ i.5))
