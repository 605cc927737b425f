-- The contract of `put_reports` leaves nothing free: two answers that it allows coincide, with every lent byte.
-- Assumes nothing.
use Prim.Native.Nat.{ℕ}
use mathlib.Core.Path.{◌≡◌, sym, ◌∙◌}
use mathlib.Core.List.{List}
use Rattle.report.specs.Fill.{Filling, Fills}
use Rattle.report.specs.declared.fill.Filled.{Filled}

module _ {before : List ℕ} {t : Filling} {r s : Filled} {after other : List ℕ} where
  pub fills_one : Fills before t after r → Fills before t other s → (r ≡ s) × (after ≡ other)
  fills_one a b = (a.answer ∙ sym b.answer, a.bytes ∙ sym b.bytes)
