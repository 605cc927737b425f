use mathlib.Core.Path.{◌≡◌, refl, ◌∙◌}
use mathlib.Core.List.{List, [], ◌∷◌}
use lib.Dec.{eqb}
use borrow.Author.Rules.{rules}
use borrow.Author.Tests.{tests}
use Rattle.std.proofs.lemmas.Iterator.{YieldsList-from_slice}
use Rattle.std.proofs.lemmas.Iterator.Search.{any_from_yields_List}
use Rattle.std.specs.List.{list_any}
use Rattle.line.specs.Faults.{number_of}
use Rattle.line.specs.declared.fault.Fault.{Fault}
use Rattle.account.specs.Account.{is_cut}
use Rattle.account.proofs.rows.is_cut.Goals as goal

same : (fs : List Fault) → list_any (λ (f : Fault). eqb (number_of f.kind) 1) fs ≡ is_cut fs
unfolding is_cut
same [] = refl
same (f ∷ t) = rw (same t) refl

pub returns : goal.returns
returns c =
    any_from_yields_List (λ (f : Fault). eqb (number_of f.kind) 1) _ _ c.any.result c.any.ensures.ran
    (YieldsList-from_slice c.args.faults.now c.iter.ensures.rest) (λ x b q k. search (rules, tests))
    ∙ same c.args.faults.now
