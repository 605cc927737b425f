-- The contracts of this crate leave nothing free: two answers that one allows coincide, with every lent byte.
-- Assumes nothing.
use mathlib.Core.Path.{◌≡◌, sym, ap, ◌∙◌}
use mathlib.Core.List.{List}
use Prim.Native.Nat.{ℕ}
use Rattle.std.specs.Prelude.{Option}
use Rattle.line.specs.declared.columns.Columns.{Columns}
use Rattle.sheet.specs.Draft.{Draft, draft, copied, Ends}
use Rattle.sheet.specs.Sheet.{Written, Sheet, line_of, afterwards, Writes}
use Rattle.sheet.specs.declared.Pen.{Pen}

pub draft-one : {a b : List ℕ} {r s : Pen} {d : Draft} → draft a r ≡ d → draft b s ≡ d → (r ≡ s) × (a ≡ b)
unfolding draft
draft-one {a} {b} {r} {s} e f =
    let g = e ∙ sym f in (
      ap (λ (d : Draft). record { next = d.page.at; miss = d.miss }) g,
      ap (λ (d : Draft). d.page.bytes) g,
    )

module _ {old line : List ℕ} {miss : Option Columns} {r s : Written} {a b : List ℕ} where
  pub ends-one : Ends old line miss r a → Ends old line miss s b → (r ≡ s) × (a ≡ b)
  ends-one e f =
      let same = e.answers ∙ sym f.answers in (same, e.leaves ∙ ap (copied old line) same ∙ sym f.leaves)

module _ {old : List ℕ} {sheet : Sheet} {r s : Written} {a b : List ℕ} where
  pub writes_one : Writes old sheet r a → Writes old sheet s b → (r ≡ s) × (a ≡ b)
  writes_one e f =
      let same = e.answers ∙ sym f.answers in (same, e.leaves ∙ ap (afterwards old (line_of sheet)) same ∙ sym f.leaves)
