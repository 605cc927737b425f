-- The contracts of this crate's puts leave nothing free: two answers that one allows coincide, with every lent byte.
-- Assumes nothing.
use Prim.Native.Nat.{ℕ}
use mathlib.Core.Path.{◌≡◌, refl, sym, ap, ◌∙◌}
use mathlib.Core.Bool.{Bool}
use mathlib.Core.List.{List}
use Rattle.page.specs.Page.{Page}
use Rattle.cell.specs.Cell.{Puts}
use Rattle.cell.specs.declared.Put.{Put}

same-put : (a b : ℕ) (u v : Bool) → a ≡ b → u ≡ v → ◌≡◌ {A = Put} (record { next = a; fits = u }) (record { next = b; fits = v })
same-put a b u v e f = rw (e, f) refl

module _ {before : Page} {bytes : List ℕ} {fit : Bool} {r s : Put} {after other : List ℕ} where
  pub puts_one : Puts before bytes fit after r → Puts before bytes fit other s → (r ≡ s) × (after ≡ other)
  puts_one a b =
      let e = a.puts ∙ sym b.puts in
      (same-put r.next s.next r.fits s.fits (ap (λ (p : Page). p.at) e) (a.tells ∙ sym b.tells), ap (λ (p : Page). p.bytes) e)
