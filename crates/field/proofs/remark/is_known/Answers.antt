-- `field::remark::is_known` meets its contract: past its end the table holds 0.
-- Assumes nothing.
use Rattle.std.proofs.Common.{rules, ◌≡◌, ℕ, Bool, false, not, eqb, List, Bor, Option, Some, None, MatchOption, ◌∙◌}
use Rattle.std.specs.Slice.{IsItemAt}
use Rattle.field.specs.Remark.{is_known}
use Rattle.field.proofs.remark.is_known.Goals as goal

valid : (t : List ℕ) (n : ℕ) (r : Option (Bor ℕ)) (P : Bor ℕ → Type 0) {b : Bool} → IsItemAt t n r → ((x : Bor ℕ) → P x → b ≡ not (eqb x.now 0))
    → MatchOption r (b ≡ false) P → b ≡ is_known t n
unfolding is_known
valid t n (Some x) P at is h = is x h ∙ search rules
valid t n None P at is h = h ∙ search rules

pub returns : goal.returns
returns c = valid _ _ _ _ c.get.ensures.lookup (λ x p. search rules) c.is_some_and.ensures
