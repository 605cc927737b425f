-- `field::text_field::fine_optional` meets its contract.
-- Assumes nothing.
use mathlib.Core.Path.{refl}
use borrow.Author.Tests.{lt-ltb, le-ltb, eq-eqb, ne_eqb}
use lib.ListN.{length, get_or}
use Rattle.field.specs.Text.{optional_at, character_faults}
use Rattle.field.proofs.text_field.fine_optional.Goals as goal

pub returns-then-line-at : goal.returns-then-line-at
unfolding optional_at character_faults
returns-then-line-at c =
    let l = c.args.line.now in
    let k = c.args.column in
    rw (le-ltb k (length l) c.if-line-at.true) refl

pub returns-then-line-at-eq32 : goal.returns-then-line-at-eq32
unfolding optional_at character_faults
returns-then-line-at-eq32 c =
    let l = c.args.line.now in
    let k = c.args.column in
    rw (lt-ltb k (length l) c.if-line-at.false, eq-eqb (get_or l k 0) 32 c.if-line-at-eq32.true) refl

pub returns : goal.returns
unfolding optional_at character_faults
returns c =
    let l = c.args.line.now in
    let k = c.args.column in
    rw (lt-ltb k (length l) c.if-line-at.false, ne_eqb (get_or l k 0) 32 c.if-line-at-eq32.false) refl
