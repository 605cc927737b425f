-- `cell::text::put_last` meets its contract. The loop's invariant: the digits that are left go before those that were found.
-- Assumes nothing.
use Prim.Native.Nat.{◌-◌}
use mathlib.Core.Path.{◌≡◌, refl, ◌∙◌, ap}
use native.Mathlib.Omega.{arith}
use borrow.Author.Rules.{rules}
use Rattle.page.specs.Page.{put}
use Rattle.page.proofs.Laws.Lists.{rest_from}
use Rattle.cell.proofs.Laws.Put.{last_more, last_done}
use Rattle.cell.proofs.text.put_last.Goals as goal

pub loop-i-init : goal.loop-i-init
loop-i-init c = let all : 9 - (9 - c.args.k) ≡ c.args.k = omega arith in (omega arith, refl, rw all refl)

pub loop-i-preserved : goal.loop-i-preserved
loop-i-preserved c =
    let l = c.loop-i in
    let k = l.i - (9 - c.args.k) in
    let one : l.i - 1 - (9 - c.args.k) ≡ k - 1 = omega arith in
    (omega arith, search rules, rw one (last_more l.bytes l.i k l.rest (omega arith) (omega arith) (omega arith) ∙ l.invariant.2))

pub returns : goal.returns
returns c =
    let l = c.loop-i in
    let end : l.i ≡ 9 - c.args.k = omega arith in
    let rest = rest_from l.i (9 - l.i) l.bytes (omega arith) in
    c.put_bytes.ensures ∙ ap (put _) (rw end at (rest ∙ last_done (l.i - (9 - c.args.k)) l.rest _ _ (omega arith) l.invariant.2))
