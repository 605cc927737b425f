-- `walker::lines::find_lf` meets its contract. A line of 80 bytes is told at once; otherwise the bytes before the LF are the blocks without one and
-- those before it in the rest.
-- Assumes nothing.
use mathlib.Core.Path.{sym, ◌∙◌}
use Rattle.std.proofs.Common.{◌+◌, ◌≤◌, length, drop, length-drop}
use borrow.Author.Rules.{rules}
use native.Mathlib.Omega.{arith}
use Rattle.walker.proofs.Laws.Pieces.{rest-all, position-some, position-none}
use Rattle.walker.proofs.lines.find_lf.Goals as goal

pub returns-then-is_full : goal.returns-then-is_full
returns-then-is_full c = sym ((rw c.if-is_full.true at c.is_full.ensures).1)

pub overflow_add-result : goal.overflow_add-result
overflow_add-result c =
    let t = c.args.rest.now in
    let n = c.free_blocks-free.result in
    let p = (position-some (drop n t) c.in-Some.more (sym c.in-Some.is ∙ rw (rest-all t n) at c.first_lf.ensures)).0 in
    let l = length-drop n t in
    let h : n + c.in-Some.more ≤ length t = omega arith in
    search rules

pub returns-in-Some : goal.returns-in-Some
returns-in-Some c =
    let t = c.args.rest.now in
    let n = c.free_blocks-free.result in
    let p = (position-some (drop n t) c.in-Some.more (sym c.in-Some.is ∙ rw (rest-all t n) at c.first_lf.ensures)).1 in
    rw p c.free_blocks-free.ensures.free

pub returns-in-None : goal.returns-in-None
returns-in-None c =
    let t = c.args.rest.now in
    let n = c.free_blocks-free.result in
    let p = position-none (drop n t) (sym c.in-None.is ∙ rw (rest-all t n) at c.first_lf.ensures) in
    omega (arith, length-drop n t, c.free_blocks-free.ensures.free, c.free_blocks-free.ensures.within)
