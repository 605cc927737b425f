-- `pdbreport::tell::tell_over` meets its contract: the answer is what lexing it would give.
-- Assumes nothing.
use mathlib.Core.Path.{refl}
use Rattle.pdbreport.proofs.Laws.Came.{next-over}
use Rattle.pdbreport.proofs.tell.tell_over.Goals as goal

pub tell-requires : goal.tell-requires
tell-requires g c =
    let pre = c.requires in
    next-over _ _ pre.0 pre.1 _ pre.2 (rw (c.new-why.ensures, c.excess.ensures, c.none.ensures) refl)
