-- `field::text_field::shifted` meets its contract: a text lies within its part, so its place in the line is no further than any.
-- Assumes nothing.
use Prim.Native.Nat.{◌≤◌}
use mathlib.Core.Path.{refl, ◌∙◌}
use native.Mathlib.Omega.{arith}
use borrow.Author.Tests.{eq-eqb, ne_eqb}
use lib.ListN.{length}
use Rattle.field.proofs.Laws.Fields.{span_within, whole-text}
use Rattle.field.proofs.text_field.shifted.Goals as goal

pub returns-then-is_whole : goal.returns-then-is_whole
returns-then-is_whole c =
    let a = c.args in
    c.new.ensures ∙ whole-text a.start a.part.now (c.is_whole.ensures c.if-is_whole.true)

pub returns-then-span-eq0 : goal.returns-then-span-eq0
returns-then-span-eq0 c =
    let e = c.read_text-span.ensures in
    c.new-then-span-eq0.ensures ∙ rw (← e, eq-eqb c.read_text-span.result.length 0 c.if-span-eq0.true) refl

pub overflow_add-start : goal.overflow_add-start
overflow_add-start c =
    let e = c.read_text-span.ensures in
    let p = c.args.part.now in
    let w : c.read_text-span.result.place ≤ length p = rw e (span_within p) in
    let g = c.well_formed in
    omega arith

pub returns : goal.returns
returns c =
    let e = c.read_text-span.ensures in
    c.new-2.ensures ∙ rw (← e, ne_eqb c.read_text-span.result.length 0 c.if-span-eq0.false) refl
