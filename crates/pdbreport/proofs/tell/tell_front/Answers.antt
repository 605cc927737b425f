-- `pdbreport::tell::tell_front` meets its contract: the line is what is kept.
-- Assumes nothing.
use mathlib.Core.Path.{sym}
use lib.Seq.{length-take-le}
use Rattle.pdbreport.proofs.Laws.Came.{next-front}
use Rattle.pdbreport.proofs.tell.tell_front.Goals as goal

pub slice_bounds-lex_line-end : goal.slice_bounds-lex_line-end
slice_bounds-lex_line-end g c = sym (length-take-le _ _ c.requires.3)

pub slice_bounds-tell-end : goal.slice_bounds-tell-end
slice_bounds-tell-end g c = sym (length-take-le _ _ c.requires.3)

pub tell-requires : goal.tell-requires
tell-requires g c =
    let pre = c.requires in
    next-front _ _ pre.0 pre.1 _ pre.2 c.lex_line-answer.ensures
