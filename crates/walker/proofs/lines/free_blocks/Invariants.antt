-- `walker::lines::free_blocks` meets its contract. The loop's invariant: what is left for the blocks is the rest behind those passed; and the bytes
-- before the LF are those passed and those before it in that rest.
-- Assumes nothing.
use Rattle.std.proofs.Common.{◌≡◌, ◌+◌, ◌≤◌, length, drop}
use Rattle.std.specs.Slice.Iter.{chunks_exact_rest, chunks_exact_size}
use Rattle.walker.specs.Lines.{before_lf}
use Rattle.walker.proofs.lines.free_blocks.Given as goal

abbrev pub invariant-loop-block : goal.invariant-loop-block
invariant-loop-block l =
    (goal.iterator-loop-block).can_next l.block-iterator × (goal.iterator-loop-block).is_finite l.block-iterator
    × (chunks_exact_size l.block-iterator ≡ 16) × (chunks_exact_rest l.block-iterator ≡ drop l.n l.rest) × (l.n ≤ length l.rest)
    × (l.n + before_lf (drop l.n l.rest) ≡ before_lf l.rest)
