-- A line that holds a label is written with any label of the same texts and numbers: the texts as they were viewed are put for those handed on.
-- Assumes nothing.
use mathlib.Core.Path.{◌≡◌}
use mathlib.Core.List.{List}
use Prim.Native.Nat.{ℕ}
use lib.IntN.{ℤ}
use Rattle.sheet.specs.Sheet.{Written, Sheet, Writes}
use Rattle.printer.specs.Sheets.{Label, label}

pub written_by_lem : (sheet : Label → Sheet) (old new : List ℕ) (w : Written) (serial : ℕ) (name a a' r r' c c' : List ℕ) (n n' : ℤ)
    (i i' s s' e e' : List ℕ) (z z' : ℤ) → a ≡ a' → r ≡ r' → c ≡ c' → n ≡ n' → i ≡ i' → s ≡ s' → e ≡ e' → z ≡ z'
    → Writes old (sheet (label serial name a r c n i s e z)) w new → Writes old (sheet (label serial name a' r' c' n' i' s' e' z')) w new
written_by_lem sheet old new w serial name a a' r r' c c' n n' i i' s s' e e' z z' ea er ec en ei es ee ez h =
    rw (ea, er, ec, en, ei, es, ee, ez) at h
