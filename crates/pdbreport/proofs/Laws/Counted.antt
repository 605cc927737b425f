-- What the summary counts is what there is: after all lines of a file the first words are how many there are, how many were accepted and have faults, and
-- how many were refused.
--     refused_in, faulty_in     how many of some lines, from a number on
--     all-counted             line after line
--     file_counted            a file, whose lines have numbers of 64 bits
-- Assumes nothing.
use Prim.Native.Nat.{ℕ, suc, ◌+◌, ◌^◌, ◌≤◌, ◌<◌, min}
use mathlib.Core.Path.{◌≡◌, ◌∙◌}
use mathlib.Core.Bool.{Bool, true, false, cond}
use mathlib.Core.List.{List, [], ◌∷◌}
use native.Mathlib.Omega.{arith}
use lib.Dec.{ltb}
use lib.ListN.{length, length-replicate}
use Rattle.ledger.specs.Ledger.{word, one, entered}
use Rattle.ledger.proofs.Laws.Counted.{most, is_refused, faults_by, entered-size, lines-counted, faulty-counted, refused-counted}
use Rattle.lexitem.specs.declared.answer.Answer.{Answer}
use Rattle.walker.specs.Lines.{lines_of}
use Rattle.pdbreport.specs.Told.{answer_of, all_entered, fresh}

abbrev has_faults : Answer → Bool
has_faults a = ltb 0 (length (faults_by a.outcome a.faults))

abbrev pub refused_in : ℕ → List (List ℕ) → ℕ
refused_in n [] = 0
refused_in n (l ∷ ls) = one (is_refused (answer_of n l).outcome) + refused_in (suc n) ls

abbrev pub faulty_in : ℕ → List (List ℕ) → ℕ
faulty_in n [] = 0
faulty_in n (l ∷ ls) = one (has_faults (answer_of n l)) + faulty_in (suc n) ls

one-few : (b : Bool) → one b ≤ 1
one-few true = omega arith
one-few false = omega arith

chosen : (b : Bool) (n : ℕ) → n + 1 ≤ most → cond b (min (n + 1) most) n ≡ n + one b
chosen true n h = omega arith
chosen false n h = omega arith

pub record Counts (ws : List ℕ) (n : ℕ) (ls : List (List ℕ)) : Type 0 where
  pub lines : word (all_entered ws n ls) 0 ≡ word ws 0 + length ls
  pub faulty : word (all_entered ws n ls) 2 ≡ word ws 2 + faulty_in n ls
  pub refused : word (all_entered ws n ls) 3 ≡ word ws 3 + refused_in n ls

pub all-counted : (ws : List ℕ) (n : ℕ) (ls : List (List ℕ)) → length ws ≡ 69 → word ws 0 + length ls ≤ most → word ws 2 + length ls ≤ most
    → word ws 3 + length ls ≤ most → Counts ws n ls
unfolding all_entered
all-counted ws n [] size a b c = record { lines = omega arith; faulty = omega arith; refused = omega arith }
all-counted ws n (l ∷ ls) size a b c =
    let answer = answer_of n l in
    let next = entered ws l answer in
    let first = lines-counted ws l answer size in
    let second = faulty-counted ws l answer size (omega arith) in
    let third = refused-counted ws l answer size ∙ chosen (is_refused answer.outcome) (word ws 3) (omega arith) in
    let some = one-few (has_faults answer) in
    let few = one-few (is_refused answer.outcome) in
    let rest = all-counted next (suc n) ls (entered-size ws l answer ∙ size) (omega arith) (omega arith) (omega arith) in
    let x = rest.lines in
    let y = rest.faulty in
    let z = rest.refused in
    record { lines = omega arith; faulty = omega arith; refused = omega arith }

pub file_counted : (f : List ℕ) → length (lines_of f) < 2 ^ 64 → Counts fresh 1 (lines_of f)
file_counted f h = all-counted fresh 1 (lines_of f) (length-replicate {A = ℕ} 69 0) (omega arith) (omega arith) (omega arith)
