-- Laws of the entries that write.
--     packs, packs-other     a written sheet's answer, and another kind's, as one number
--     packs-one              what an entry may answer is one number, with one content of every lent byte
-- Assumes nothing.
use mathlib.Core.Path.{◌≡◌, refl, sym, ap, ◌∙◌}
use Prim.Native.Nat.{ℕ}
use mathlib.Core.List.{List}
use Rattle.line.specs.Columns.{◌⋯◌}
use Rattle.sheet.specs.Sheet.{Written, Sheet, Writes, answer_of, afterwards, line_of, other_kind}
use Rattle.std.specs.Prelude.{Err}
use Rattle.sheet.specs.declared.Unwritten.TheVariants.{NoFit}
use Rattle.writing.specs.Write.{packed, Packs}

pub packs : (old new : List ℕ) (s : Sheet) (w : Written) (r : ℕ) → Writes old s w new → r ≡ packed w → Packs old s r new
packs old new s w r h e =
    record { answers = e ∙ ap packed h.answers; leaves = h.leaves ∙ ap (afterwards old (line_of s)) h.answers }

pub packs-other : (old : List ℕ) (r : ℕ) → r ≡ packed (Err (NoFit (0 ⋯ 6))) → Packs old other_kind r old
unfolding answer_of
packs-other old r e = record { answers = e; leaves = refl }

module _ {old : List ℕ} {s : Sheet} {q r : ℕ} {a b : List ℕ} where
  pub packs-one : Packs old s q a → Packs old s r b → (q ≡ r) × (a ≡ b)
  packs-one e f = (e.answers ∙ sym f.answers, e.leaves ∙ sym f.leaves)
