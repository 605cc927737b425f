-- `field::text_field::character` meets its contract: a fine field notes nothing, and one that isn't notes its one fault.
-- Assumes nothing.
use Rattle.std.proofs.Common.{rules}
use Rattle.field.specs.Text.{character_at, character_faults, unreached}
use Rattle.field.proofs.Laws.Fine.{character_one, character-none}
use Rattle.field.proofs.Laws.Found.{got-found}
use Rattle.field.proofs.text_field.character.Goals as goal

pub returns : goal.returns
returns c =
    let l = c.args.line.now in
    let k = c.args.column in
    got-found (character_faults l k) (character_at l k) _ (unreached k) c.args.faults _ c.fine_character.ensures (character_one l k)
    (λ e. (character-none l k e).0)
    (λ f p. search rules)
    c.found_or.ensures
