-- `page::put_hex` meets its contract. The loop's invariant: the digits of the rest in front of those gathered are the number's.
-- Assumes nothing.
use mathlib.Core.Path.{ap, ◌∙◌}
use native.Mathlib.Omega.{arith}
use Rattle.page.proofs.Laws.Hex.{hex_more, hex_done}
use Rattle.page.specs.Page.{put}
use Rattle.page.specs.Numerals.{hex16}
use borrow.Author.Rules.{rules}
use Rattle.page.proofs.put_hex.Goals as goal

pub loop-i-init : goal.loop-i-init
unfolding hex16
loop-i-init c = search rules

pub loop-i-preserved : goal.loop-i-preserved
loop-i-preserved c =
    let l = c.loop-i in
    (search rules, hex_more l.text l.i l.rest _ (omega arith) (omega arith) c.hex_digit.ensures ∙ l.invariant.1)

pub returns : goal.returns
returns c =
    let l = c.loop-i in
    c.put_bytes.ensures ∙ ap (put _) (hex_done l.text l.i l.rest _ (omega arith) l.invariant.1)
