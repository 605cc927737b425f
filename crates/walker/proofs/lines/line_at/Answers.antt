-- `walker::lines::line_at` meets its contract: each return is a case of `step_at`, by the place of the LF.
-- Assumes nothing.
use mathlib.Core.Path.{sym}
use Rattle.std.proofs.Common.{◌+◌, ◌≤◌, length, drop, length-drop}
use borrow.Author.Rules.{rules}
use native.Mathlib.Omega.{arith}
use Rattle.walker.proofs.Laws.Lines.{step_end}
use Rattle.walker.proofs.Laws.Pieces.{length_taken, taken-le, rest-all, step-last, step-lf}
use Rattle.walker.proofs.lines.line_at.Goals as goal

pub overflow_add-result : goal.overflow_add-result
overflow_add-result c =
    let t = drop c.args.at c.args.file.now in
    let l = length-drop c.args.at c.args.file.now in
    let e = rw (rest-all c.args.file.now c.args.at) at c.without_cr.ensures in
    let a = length_taken t in
    let b = taken-le t in
    let h : c.args.at + c.without_cr.result ≤ length c.args.file.now = omega arith in
    search rules

pub returns-then-file-at : goal.returns-then-file-at
returns-then-file-at c = sym ((step_end _ _).1 c.if-file-at.true)

pub returns-then-rest-lf : goal.returns-then-rest-lf
returns-then-rest-lf c =
    let f = c.args.file.now in
    let at = c.args.at in
    step-last f at _ c.if-file-at.false (rw (rest-all f at) at c.find_lf-lf.ensures) (rw (rest-all f at) at c.if-rest-lf.true)

pub returns : goal.returns
returns c =
    let f = c.args.file.now in
    let at = c.args.at in
    step-lf f at _ c.if-file-at.false (rw (rest-all f at) at c.find_lf-lf.ensures) _ (rw (rest-all f at) at c.if-rest-lf.false)
    (rw (rest-all f at) at c.without_cr.ensures)
