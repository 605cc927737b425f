-- `cell::words::put_words` meets its contract, by the code's tests.
-- Assumes nothing.
use mathlib.Core.Path.{refl, sym, ◌∙◌}
use native.Mathlib.Omega.{arith}
use Rattle.cell.proofs.Laws.Words.{words_long, words_odd, words_left, words_right}
use Rattle.cell.proofs.words.put_words.Goals as goal

pub returns-then-width-bytes : goal.returns-then-width-bytes
returns-then-width-bytes c = words_long _ _ _ _ _ _ (omega arith) c.put_none.ensures

pub returns-then-not-is_printable : goal.returns-then-not-is_printable
returns-then-not-is_printable c = words_odd _ _ _ _ _ _ (omega arith) (sym c.is_printable.ensures ∙ c.if-not-is_printable.true) c.put_none-then-not-is_printable.ensures

pub returns-then-left : goal.returns-then-left
returns-then-left c =
    let printed = sym c.is_printable.ensures ∙ c.if-not-is_printable.false in
    words_left _ _ _ _ _ _ c.if-left.true (omega arith) printed (record { puts = c.put_left.ensures; tells = refl })

pub returns : goal.returns
returns c =
    let printed = sym c.is_printable.ensures ∙ c.if-not-is_printable.false in
    words_right _ _ _ _ _ _ c.if-left.false (omega arith) printed (record { puts = c.put_right.ensures; tells = refl })
