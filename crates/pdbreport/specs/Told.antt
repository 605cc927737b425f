-- "One command that says, for a file, whether it was read, and where not": the accounts of its lines, one behind the other, and then the summary of
-- what was entered for them.
use Rattle.std.specs.Prelude.{ℕ, suc, List, [], ◌∷◌, ◌++◌, replicate}
use Rattle.account.specs.Account.{account, input_of}
use Rattle.ledger.specs.Ledger.{entered}
use Rattle.ledger.specs.Summary.{summary}
use Rattle.lexer.specs.Lexed.{lexed}
use Rattle.lexitem.specs.declared.answer.Answer.{Answer}
use Rattle.walker.specs.Lines.{lines_of}

-- a line as it is read, by its number
abbrev pub answer_of : ℕ → List ℕ → Answer
answer_of number l = lexed (input_of number l)

-- lines, from a number on
unfoldable pub accounts : ℕ → List (List ℕ) → List ℕ
accounts number [] = []
accounts number (l ∷ ls) = account number l ++ accounts (suc number) ls

unfoldable pub all_entered : List ℕ → ℕ → List (List ℕ) → List ℕ
all_entered ws number [] = ws
all_entered ws number (l ∷ ls) = all_entered (entered ws l (answer_of number l)) (suc number) ls

-- before the first line
abbrev pub fresh : List ℕ
fresh = replicate 69 0

-- a file
abbrev pub accounts_of : List ℕ → List ℕ
accounts_of f = accounts 1 (lines_of f)

abbrev pub summary_of : List ℕ → List ℕ
summary_of f = summary (all_entered fresh 1 (lines_of f))
