-- `names::put_text` meets its contract, by its test.
-- Assumes nothing.
use mathlib.Core.Path.{ap, ◌∙◌}
use Rattle.page.specs.Page.{put}
use Rattle.names.proofs.Laws.Table.{text_in, text_out}
use Rattle.names.proofs.put_text.Goals as goal

pub returns-then-place-texts : goal.returns-then-place-texts
returns-then-place-texts c = c.put_bytes.ensures ∙ ap (put _) (text_in c.args.texts.now _ _ c.if-place-texts.true)

pub returns : goal.returns
unfolding put
returns c = ap (put _) (text_out c.args.texts.now _ c.if-place-texts.false)
