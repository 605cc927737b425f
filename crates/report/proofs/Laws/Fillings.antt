-- Filling after filling.
--     Left, fill-left       what is put, and then the reports of the lines that are left, are all of them
--     fill-fewer            with room for any report a line at least is put
--     filling-at            and no offset past the end is answered
--     fillings-all          fillings from the first line on, in rooms of any size from 4,096 bytes up, are the reports of all lines of a file,
--                           in order and numbered from 1
-- Assumes nothing.
use Prim.Native.Nat.{ℕ, suc, ◌+◌, ◌-◌, ◌^◌, ◌≤◌, ◌<◌}
use mathlib.Core.Path.{◌≡◌, refl, sym, ap, ◌∙◌}
use mathlib.Core.Bool.{Bool, true, false, cond}
use mathlib.Core.List.{List, [], ◌∷◌, ◌++◌, append_assoc}
use native.Mathlib.Omega.{arith}
use borrow.Author.Tests.{le-ltb}
use lib.ListN.{length, drop, length-drop}
use lib.Seq.{drop-drop}
use lib.Dec.{ltb}
use Rattle.listing.specs.Listing.{longest}
use Rattle.walker.specs.Lines.{lines_of, line_taken, number_behind}
use Rattle.walker.proofs.Laws.Lines.{lines-first, lines-le}
use Rattle.walker.proofs.Laws.Pieces.{taken-le}
use Rattle.report.specs.Report.{report, input_of}
use Rattle.report.specs.Fill.{reports_from, Filling, stop, behind, fill, filling, fillings, Enough}
use Rattle.report.proofs.Laws.Room.{report-room}

pub report-most : (number : ℕ) (l : List ℕ) → length (report number l) ≤ longest
unfolding report
report-most number l = report-room (input_of number l)

-- ---- what is left
-- behind the first of the lines from an offset on stand the others
lines-behind : (f : List ℕ) (at : ℕ) (l : List ℕ) (ls : List (List ℕ)) → lines_of (drop at f) ≡ l ∷ ls
    → lines_of (drop (at + line_taken (drop at f)) f) ≡ ls
lines-behind f at l ls e =
    let some : 0 < length (drop at f) = omega (arith, lines-le (drop at f), ap length e) in
    let first = lines-first (drop at f) some in
    let rest : lines_of (drop (line_taken (drop at f)) (drop at f)) ≡ ls = cc in
    rw (← drop-drop (line_taken (drop at f)) at f) rest

-- a filling of the lines ls, the first of which has a number
pub record Left (f : List ℕ) (number : ℕ) (ls : List (List ℕ)) (t : Filling) : Type 0 where
  pub text : reports_from number ls ≡ t.text ++ reports_from t.number (lines_of (drop t.at f))
  pub sum : t.number + length (lines_of (drop t.at f)) ≡ number + length ls
  pub fewer : length (lines_of (drop t.at f)) ≤ length ls

left-stop : (f : List ℕ) (ls : List (List ℕ)) (at number : ℕ) → lines_of (drop at f) ≡ ls → Left f number ls (stop at number)
left-stop f ls at number e = record { text = rw e refl; sum = rw e refl; fewer = rw e (omega arith) }

left_behind : (f l : List ℕ) (ls : List (List ℕ)) (number : ℕ) (t : Filling) → number_behind number ≡ suc number → Left f (number_behind number) ls t
    → Left f number (l ∷ ls) (behind (report number l) t)
unfolding reports_from
left_behind f l ls number t n g =
    let sum = g.sum in
    let fewer = g.fewer in
    record {
      text = ap (λ (u : List ℕ). report number l ++ u) (ap (λ (k : ℕ). reports_from k ls) (sym n) ∙ g.text) ∙ sym (append_assoc (report number l) _ _);
      sum = omega arith;
      fewer = omega arith;
    }

pub fill-left : (room : ℕ) (f : List ℕ) (ls : List (List ℕ)) (at number : ℕ) → lines_of (drop at f) ≡ ls → number + length ls < 2 ^ 64
    → Left f number ls (fill room f ls at number)
unfolding fill
fill-left room f [] at number e h = left-stop f [] at number e
fill-left room f (l ∷ ls) at number e h =
    let n : number_behind number ≡ suc number = omega arith in
    go (ltb room longest)
    (left_behind f l ls number _ n (fill-left (room - length (report number l)) f ls (at + line_taken (drop at f)) (number_behind number) (lines-behind f at l ls e) (omega arith)))
  where
    go : (c : Bool)
        → Left f number (l ∷ ls) (behind (report number l) (fill (room - length (report number l)) f ls (at + line_taken (drop at f)) (number_behind number)))
        → Left f number (l ∷ ls) (cond c (stop at number) (behind (report number l) (fill (room - length (report number l)) f ls (at + line_taken (drop at f)) (number_behind number))))
    go true g = left-stop f (l ∷ ls) at number e
    go false g = g

pub fill-fewer : (room : ℕ) (f l : List ℕ) (ls : List (List ℕ)) (at number : ℕ) → longest ≤ room → lines_of (drop at f) ≡ l ∷ ls
    → number + suc (length ls) < 2 ^ 64 → length (lines_of (drop (fill room f (l ∷ ls) at number).at f)) ≤ length ls
unfolding fill
fill-fewer room f l ls at number r e h =
    let n : number_behind number ≡ suc number = omega arith in
    rw (le-ltb room longest r)
    (fill-left (room - length (report number l)) f ls (at + line_taken (drop at f)) (number_behind number) (lines-behind f at l ls e) (omega arith)).fewer

-- ---- the same, of a filling from an offset on
pub filling-left : (room : ℕ) (f : List ℕ) (at number : ℕ) → number + length (lines_of (drop at f)) < 2 ^ 64
    → Left f number (lines_of (drop at f)) (filling room f at number)
unfolding filling
filling-left room f at number h = fill-left room f (lines_of (drop at f)) at number refl h

pub filling-fewer : (room : ℕ) (f : List ℕ) (at number : ℕ) → longest ≤ room → at < length f → number + length (lines_of (drop at f)) < 2 ^ 64
    → length (lines_of (drop (filling room f at number).at f)) < length (lines_of (drop at f))
unfolding filling
filling-fewer room f at number enough inside h =
    let size = length-drop at f in
    let first = lines-first (drop at f) (omega arith) in
    let count = ap length first in
    let fewer = fill-fewer room f _ _ at number enough first (omega arith) in
    rw first (omega arith)

-- ---- the offset behind it
fill-at : (room : ℕ) (f : List ℕ) (ls : List (List ℕ)) (at number : ℕ) → at ≤ length f → (fill room f ls at number).at ≤ length f
unfolding fill
fill-at room f [] at number h = h
fill-at room f (l ∷ ls) at number h =
    go (ltb room longest)
    (fill-at (room - length (report number l)) f ls (at + line_taken (drop at f)) (number_behind number) (omega (arith, taken-le (drop at f), length-drop at f)))
  where
    go : (c : Bool) → (fill (room - length (report number l)) f ls (at + line_taken (drop at f)) (number_behind number)).at ≤ length f
        → (cond c (stop at number) (behind (report number l) (fill (room - length (report number l)) f ls (at + line_taken (drop at f)) (number_behind number)))).at ≤ length f
    go true g = h
    go false g = g

pub filling-at : (room : ℕ) (f : List ℕ) (number : ℕ) → (filling room f 0 number).at ≤ length f
unfolding filling
filling-at room f number = fill-at room f (lines_of f) 0 number (omega arith)

-- ---- filling after filling
fillings-from : (rooms f : List ℕ) (at number : ℕ) (ls : List (List ℕ)) → Enough rooms → lines_of (drop at f) ≡ ls → length ls ≤ length rooms
    → number + length ls < 2 ^ 64 → fillings rooms f at number ≡ reports_from number ls
unfolding fillings reports_from filling fill
fillings-from [] f at number [] g e a h = refl
fillings-from [] f at number (l ∷ ls) g e a h = absurd (omega arith)
fillings-from (room ∷ rooms) f at number [] g e a h =
    rw e (fillings-from rooms f at number [] g.1 e (omega arith) (omega arith))
fillings-from (room ∷ rooms) f at number (l ∷ ls) g e a h =
    let t : Filling = fill room f (l ∷ ls) at number in
    let left = fill-left room f (l ∷ ls) at number e h in
    let few = fill-fewer room f l ls at number g.0 e h in
    let sum = left.sum in
    let ih = fillings-from rooms f t.at t.number (lines_of (drop t.at f)) g.1 refl (omega arith) (omega arith) in
    rw (e, ih) (sym left.text)

-- as many rooms as bytes are enough; a file in memory has fewer bytes than 2 ^ 64 - 1
pub fillings-all : (rooms f : List ℕ) → Enough rooms → length f ≤ length rooms → length f + 1 < 2 ^ 64
    → fillings rooms f 0 1 ≡ reports_from 1 (lines_of f)
fillings-all rooms f g a h = let few = lines-le f in fillings-from rooms f 0 1 (lines_of f) g refl (omega arith) (omega arith)
