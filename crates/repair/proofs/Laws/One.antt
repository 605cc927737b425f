-- The contract of `repair_line` leaves nothing free: two answers that it allows coincide, with every lent byte.
-- Assumes nothing.
use Prim.Native.Nat.{ℕ}
use mathlib.Core.Path.{◌≡◌, sym, ap, ◌∙◌}
use mathlib.Core.List.{List}
use Rattle.page.specs.Page.{Page}
use Rattle.repair.specs.Repair.{RepairsAs}
use Rattle.repair.specs.declared.Repaired.{Repaired}

module _ {line rows out lent written told other said : List ℕ} {r s : Repaired} where
  pub repairs_one : RepairsAs line rows out lent written told r → RepairsAs line rows out lent other said s
      → (r.n ≡ s.n) × (r.rows ≡ s.rows) × (written ≡ other) × (told ≡ said)
  repairs_one a b =
      let p = a.puts ∙ sym b.puts in
      let q = a.tells ∙ sym b.tells in
      (ap (λ (x : Page). x.at) p, ap (λ (x : Page). x.at) q, ap (λ (x : Page). x.bytes) p, ap (λ (x : Page). x.bytes) q)
