-- After every prefix of a file's lines the tally is the count over those lines.
--     tallied-count     the tally of lines that are fewer than 2^64-1 is the count over them
--     tallied-split     lines after lines
--     prefix_count      "after every prefix of the file it equals the count over those lines"
--     prefix_next       so one line more of a file makes of the count over the lines before it the count over these and it
--     counts_all        the tally's twelve numbers are the counts at the twelve places, the second among them
-- Assumes nothing.
use Prim.Native.Nat.{ℕ, suc, ◌+◌, ◌-◌, ◌^◌, ◌<◌, min}
use mathlib.Core.Path.{◌≡◌, refl, sym, ap, ◌∙◌, fun_ext}
use mathlib.Core.Bool.{Bool, true, false, cond}
use mathlib.Core.List.{List, [], ◌∷◌, ◌++◌, map}
use native.Mathlib.Omega.{arith}
use lib.ListN.{length, take, drop, length-take}
use lib.Seq.{take-add}
use Rattle.walker.specs.Lines.{lines_of}
use Rattle.walker.proofs.Laws.Lines.{lines-le}
use Rattle.tally.specs.Names.{number_of}
use Rattle.tally.specs.Tally.{counts_at, count, tally_by, count_over, more, counted, tallied, nothing}
use Rattle.tally.specs.Compare.{counts_of}
use Rattle.tally.specs.declared.Tally.{Tally}
use Rattle.tally.proofs.Laws.Name.{never_second}

-- ---- one place
-- the count at a place, with line after line
abbrev mores : ℕ → List (List ℕ) → ℕ → ℕ
mores own [] m = m
mores own (l ∷ ls) m = mores own ls (more own (number_of l) m)

more-count : (own : ℕ) (ls : List (List ℕ)) (m : ℕ) → m + length ls < 2 ^ 64 → mores own ls m ≡ m + count own ls
unfolding more count
more-count own [] m h = omega arith
more-count own (l ∷ ls) m h = go (counts_at own (number_of l)) (more-count own ls)
  where
    go : (b : Bool) → ((n : ℕ) → n + length ls < 2 ^ 64 → mores own ls n ≡ n + count own ls)
        → mores own ls (cond b (min (m + 1) (2 ^ 64 - 1)) m) ≡ m + cond b (suc (count own ls)) (count own ls)
    go true rest =
        let e : min (m + 1) (2 ^ 64 - 1) ≡ m + 1 = omega arith in
        ap (mores own ls) e ∙ rest (m + 1) (omega arith) ∙ omega arith
    go false rest = rest m (omega arith)

-- ---- all places at once
tallied_by : (f : ℕ → ℕ) (ls : List (List ℕ)) → tallied (tally_by f) ls ≡ tally_by (λ own. mores own ls (f own))
unfolding tallied counted
tallied_by f [] = refl
tallied_by f (l ∷ ls) = tallied_by (λ own. more own (number_of l) (f own)) ls

pub tallied-count : (ls : List (List ℕ)) → length ls < 2 ^ 64 → tallied nothing ls ≡ count_over ls
tallied-count ls h =
    let all : (own : ℕ) → mores own ls 0 ≡ count own ls = λ own. more-count own ls 0 (omega arith) ∙ omega arith in
    tallied_by (λ _. 0) ls ∙ ap tally_by (fun_ext all)

pub tallied-split : (t : Tally) (a b : List (List ℕ)) → tallied t (a ++ b) ≡ tallied (tallied t a) b
unfolding tallied
tallied-split t [] b = refl
tallied-split t (l ∷ a) b = tallied-split (counted t l) a b

-- ---- the lines of a file; a file in memory has fewer bytes than 2^64
pub prefix_count : (f : List ℕ) (n : ℕ) → length f < 2 ^ 64 → tallied nothing (take n (lines_of f)) ≡ count_over (take n (lines_of f))
prefix_count f n h =
    let few = lines-le f in
    let part = length-take n (lines_of f) in
    tallied-count (take n (lines_of f)) (omega arith)

pub prefix_next : (f l : List ℕ) (n : ℕ) (rest : List (List ℕ)) → length f < 2 ^ 64 → drop n (lines_of f) ≡ l ∷ rest
    → counted (count_over (take n (lines_of f))) l ≡ count_over (take (n + 1) (lines_of f))
unfolding tallied
prefix_next f l n rest h e =
    let more : tallied nothing (take (n + 1) (lines_of f)) ≡ counted (tallied nothing (take n (lines_of f))) l =
    rw (take-add n 1 (lines_of f), e) (tallied-split nothing (take n (lines_of f)) (l ∷ [])) in
    ap (λ (t : Tally). counted t l) (sym (prefix_count f n h)) ∙ sym more ∙ prefix_count f (n + 1) h

-- ---- the twelve numbers
pub second_none : (ls : List (List ℕ)) → count 1 ls ≡ 0
unfolding count
second_none [] = refl
second_none (l ∷ ls) = rw (never_second l) (second_none ls)

pub counts_all : (ls : List (List ℕ))
    → counts_of (count_over ls) ≡ map (λ n. count n ls) (0 ∷ 1 ∷ 2 ∷ 3 ∷ 4 ∷ 5 ∷ 6 ∷ 7 ∷ 8 ∷ 9 ∷ 10 ∷ 11 ∷ [])
counts_all ls = rw (second_none ls) refl
