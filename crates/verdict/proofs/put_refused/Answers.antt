-- `verdict::put_refused` meets its contract: its numbers, and then the words.
-- Assumes nothing.
use Rattle.page.proofs.Laws.Page.{put_then}
use Rattle.verdict.specs.Verdict.{refused_rows}
use Rattle.verdict.proofs.put_refused.Goals as goal

pub returns : goal.returns
unfolding refused_rows
returns c =
    put_then _ _ _ _ _ c.put_three-why.ensures
    c.put_why.ensures
