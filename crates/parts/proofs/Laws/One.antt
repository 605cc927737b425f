-- The contracts of `feed` and `finish` leave nothing free: two answers that they allow coincide, with every lent byte.
-- Assumes nothing.
use Prim.Native.Nat.{ℕ}
use mathlib.Core.Path.{◌≡◌, sym, ◌∙◌}
use mathlib.Core.List.{List}
use Rattle.parts.specs.Feed.{Turn, Feeds, Puts}
use Rattle.parts.specs.declared.Fed.{Fed}

module _ {x : Turn} {at : ℕ} {before after other kept lent : List ℕ} {r s : Fed} where
  pub feeds-one : Feeds x at before after kept r → Feeds x at before other lent s → (r ≡ s) × (after ≡ other) × (kept ≡ lent)
  feeds-one a b = (a.answer ∙ sym b.answer, a.bytes ∙ sym b.bytes, a.keeps ∙ sym b.keeps)

module _ {text before after other : List ℕ} {r s : ℕ} where
  pub puts_one : Puts text before after r → Puts text before other s → (r ≡ s) × (after ≡ other)
  puts_one a b = (a.count ∙ sym b.count, a.bytes ∙ sym b.bytes)
