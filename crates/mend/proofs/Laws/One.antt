-- The contract of `mend_line` leaves nothing free: two answers that it allows coincide, with every lent byte and word.
-- Assumes nothing.
use Prim.Native.Nat.{ℕ}
use mathlib.Core.Path.{◌≡◌, sym, ◌∙◌}
use mathlib.Core.List.{List}
use Rattle.std.specs.Prelude.{Result}
use Rattle.lexitem.specs.declared.answer.Refusal.{Refusal}
use Rattle.mend.specs.Mending.{Mends}
use Rattle.mend.specs.declared.Mended.{Mended}

module _ {l out words written other held lent : List ℕ} {r s : Result Mended Refusal} where
  pub mends_one : Mends l out words r written held → Mends l out words s other lent → (r ≡ s) × (written ≡ other) × (held ≡ lent)
  mends_one a b = (a.answers ∙ sym b.answers, a.writes ∙ sym b.writes, a.holds ∙ sym b.holds)
