-- `names::family_of` meets its contract: each test is one of `family_of`.
-- Assumes nothing.
use mathlib.Core.Path.{ap, ◌∙◌}
use native.Mathlib.Omega.{arith}
use Rattle.names.specs.Names.{family_of}
use Rattle.names.proofs.Laws.Place.{family_hetatm, family_first, family_scale, family_mtrix, family_own}
use Rattle.names.proofs.family_of.Goals as goal

pub returns-then-number-eq4 : goal.returns-then-number-eq4
returns-then-number-eq4 c = family_hetatm _ c.if-number-eq4.true ∙ ap family_of c.number_of-number.ensures

pub returns-then-number-lt7 : goal.returns-then-number-lt7
returns-then-number-lt7 c = family_first _ c.if-number-eq4.false c.if-number-lt7.true ∙ ap family_of c.number_of-number.ensures

pub returns-then-number-lt13 : goal.returns-then-number-lt13
returns-then-number-lt13 c =
    let above = c.if-number-lt7.false in
    let below = c.if-number-lt13.true in
    family_scale _ c.if-number-eq4.false (omega arith) (omega arith) ∙ ap family_of c.number_of-number.ensures

pub returns-then-number-lt16 : goal.returns-then-number-lt16
returns-then-number-lt16 c =
    let above = c.if-number-lt13.false in
    let below = c.if-number-lt16.true in
    family_mtrix _ c.if-number-eq4.false (omega arith) (omega arith)
    ∙ ap family_of c.number_of-number.ensures

pub returns : goal.returns
returns c =
    family_own _ c.if-number-eq4.false c.if-number-lt16.false
    ∙ ap family_of c.number_of-number.ensures
