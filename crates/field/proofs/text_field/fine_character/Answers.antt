-- `field::text_field::fine_character` meets its contract.
-- Assumes nothing.
use mathlib.Core.Path.{refl}
use borrow.Author.Tests.{lt-ltb, le-ltb}
use lib.ListN.{length}
use Rattle.field.specs.Text.{character_at, character_faults}
use Rattle.field.proofs.text_field.fine_character.Goals as goal

pub returns-then-line-at : goal.returns-then-line-at
unfolding character_at character_faults
returns-then-line-at c =
    let l = c.args.line.now in
    let k = c.args.column in
    rw (le-ltb k (length l) c.if-line-at.true) refl

pub returns : goal.returns
unfolding character_at character_faults
returns c =
    let l = c.args.line.now in
    let k = c.args.column in
    rw (lt-ltb k (length l) c.if-line-at.false) refl
