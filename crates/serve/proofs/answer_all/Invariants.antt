-- `serve::answer_all` is safe and ends: each turn puts one reply, behind the ones before it or at the front, and goes on behind a request.
-- Assumes nothing.
use Rattle.std.proofs.Common.{◌≡◌, ◌≤◌, length}
use Rattle.serve.proofs.answer_all.Given as goal

abbrev pub invariant-loop-rest : goal.invariant-loop-rest
invariant-loop-rest g l = (length l.replies ≡ length l.initial.replies) × (l.to ≤ length l.replies)

abbrev pub decreases-loop-rest : goal.decreases-loop-rest
decreases-loop-rest g l = length l.rest
