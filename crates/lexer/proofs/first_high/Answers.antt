-- `lexer::first_high` meets its contract: `position` finds the first byte of 128 or more, and `plain` counts those in front of it.
-- Assumes nothing.
use Prim.Native.Nat.{ℕ, ◌+◌, ◌<◌, ◌≤◌}
use mathlib.Core.Path.{◌≡◌, refl, sym, ◌∙◌}
use mathlib.Core.List.{List, ◌∷◌}
use native.Mathlib.Numerals.{add-one}
use borrow.Author.Rules.{rules}
use borrow.Author.Tests.{tests, lt-ltb, le-ltb}
use Rattle.std.proofs.lemmas.Iterator.{YieldsList-from_slice, IsFirst-from_position, index_from_first}
use Rattle.lexer.specs.Refusals.{plain}
use Rattle.lexer.proofs.first_high.Goals as goal

hit : (b : ℕ) (t : List ℕ) → 128 ≤ b → plain (b ∷ t) ≡ 0
unfolding plain
hit b t h = rw (le-ltb b 128 h) refl

miss : (b : ℕ) (t : List ℕ) → b < 128 → plain (b ∷ t) ≡ plain t + 1
unfolding plain
miss b t h = rw (lt-ltb b 128 h, add-one (plain t)) refl

pub returns : goal.returns
unfolding plain
returns c =
    let t = c.args.line.now in
    let first =
    IsFirst-from_position _ _ c.position.result (λ b. 128 ≤ b) (λ b. b < 128) c.position.ensures.ran
    (YieldsList-from_slice t c.iter.ensures.rest) (λ x q k. search (rules, tests)) (λ x q k. search (rules, tests)) in
    c.unwrap_or.ensures ∙ sym (index_from_first plain (λ b. 128 ≤ b) (λ b. b < 128) refl hit miss t c.position.result first)
