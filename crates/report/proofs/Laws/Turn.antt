-- A turn of the loop that fills lent bytes. What was put so far, with the filling of the room that is left, is the filling of the whole room.
--     So                  that, at each turn; the bytes behind what was put are as they were
--     so-first            before the first turn
--     so-full, so-end     where there is no room, or no line, it is all done
--     so-next             a line's report behind it
--     step-further        a step goes on, so that the loop ends
-- Assumes nothing.
use Prim.Native.Nat.{ℕ, ◌+◌, ◌-◌, ◌≤◌, ◌<◌}
use mathlib.Core.Path.{◌≡◌, refl, sym, ap, ◌∙◌}
use mathlib.Core.List.{List, [], ◌∷◌, ◌++◌, append_assoc, append-nil}
use native.Mathlib.Omega.{arith}
use borrow.Author.Tests.{lt-ltb, le-ltb}
use lib.ListN.{length, take, drop, length-append, length-drop, take-append-drop}
use lib.Seq.{drop-drop, take_at, drop_at, length-take-le}
use Rattle.std.specs.Prelude.{Some, None}
use Rattle.listing.specs.Listing.{longest}
use Rattle.walker.specs.Lines.{lines_of, line_taken, step_at, part_of, number_behind}
use Rattle.walker.specs.declared.Line.{Line}
use Rattle.walker.proofs.Laws.Lines.{step-served, step_in, step_end, end-lines}
use Rattle.report.specs.Report.{report}
use Rattle.report.specs.Fill.{Filling, stop, behind, fill, filling, Fills, PutBehind}

pub record So (f : List ℕ) (at number : ℕ) (before after : List ℕ) (i k n : ℕ) : Type 0 where
  pub made : behind (take n after) (filling (length before - n) f i k) ≡ filling (length before) f at number
  pub rest : drop n after ≡ drop n before
  pub size : length after ≡ length before
  pub within : n ≤ length before

pub so-first : (f : List ℕ) (at number : ℕ) (before : List ℕ) → So f at number before before at number 0
so-first f at number before =
    let e : length before - 0 ≡ length before = omega arith in
    record { made = rw e refl; rest = refl; size = refl; within = omega arith }

-- ---- one turn of the definition
fill-full : (room : ℕ) (f : List ℕ) (ls : List (List ℕ)) (i k : ℕ) → room < longest → fill room f ls i k ≡ stop i k
unfolding fill
fill-full room f [] i k h = refl
fill-full room f (l ∷ ls) i k h = rw (lt-ltb room longest h) refl

filling-full : (room : ℕ) (f : List ℕ) (i k : ℕ) → room < longest → filling room f i k ≡ stop i k
unfolding filling
filling-full room f i k h = fill-full room f (lines_of (drop i f)) i k h

filling-end : (room : ℕ) (f : List ℕ) (i k : ℕ) → lines_of (drop i f) ≡ [] → filling room f i k ≡ stop i k
unfolding filling fill
filling-end room f i k e = rw e refl

filling_line : (room : ℕ) (f : List ℕ) (i k : ℕ) (x : Line) → longest ≤ room → step_at f i ≡ Some x
    → filling room f i k ≡ behind (report k (part_of f x.start x.end)) (filling (room - length (report k (part_of f x.start x.end))) f x.next (number_behind k))
unfolding filling fill
filling_line room f i k x h e =
    let s = step-served f i x e in
    let moves = s.moves in
    let within = s.within in
    let inside = step_in f i (omega arith) in
    let a : i + line_taken (drop i f) ≡ x.next = cc in
    rw (s.lines, le-ltb room longest h, a, s.part) refl

-- a step goes on, and not past the end
pub step-further : (f : List ℕ) (i : ℕ) (x : Line) → step_at f i ≡ Some x → (i < x.next) × (x.next ≤ length f)
step-further f i x e = let s = step-served f i x e in (s.moves, s.within)

-- ---- one turn of the loop
module _ (f : List ℕ) (at number : ℕ) (before after : List ℕ) (i k n : ℕ) (h : So f at number before after i k n) where
  front : (t : List ℕ) → length (take n after ++ t) ≡ n + length t
  front t =
      let size = h.size in
      let within = h.within in
      length-append (take n after) t ∙ ap (λ (m : ℕ). m + length t) (length-take-le n after (omega arith))

  stops : filling (length before - n) f i k ≡ stop i k
      → Fills before (filling (length before) f at number) after (record { at = i; number = k; n = n })
  stops e =
      let made : behind (take n after) (stop i k) ≡ filling (length before) f at number = rw e at h.made in
      let size = h.size in
      let within = h.within in
      let many : length (take n after) ≡ n = length-take-le n after (omega arith) in
      rw (← made, append-nil (take n after)) (record { answer = rw many refl; bytes = rw (many, ← h.rest) (sym (take-append-drop n after)) })

  pub so-full : length before - n < longest
      → Fills before (filling (length before) f at number) after (record { at = i; number = k; n = n })
  so-full l = stops (filling-full (length before - n) f i k l)

  pub so-end : step_at f i ≡ None → Fills before (filling (length before) f at number) after (record { at = i; number = k; n = n })
  so-end e = stops (filling-end (length before - n) f i k (end-lines f i ((step_end f i).0 e)))

  module _ (x : Line) (later : List ℕ) (r : ℕ) (room : longest ≤ length before - n) (e : step_at f i ≡ Some x)
      (put : PutBehind after n (report k (part_of f x.start x.end)) later r) where
    -- the report is put behind what was put before
    again : (t : List ℕ) (y : Filling) → filling (length before - n) f i k ≡ behind t y
        → behind (take n after ++ t) y ≡ filling (length before) f at number
    again t y g = rw (append_assoc (take n after) t y.text) (rw g at h.made)

    pub so-next : So f at number before later x.next (number_behind k) (n + r)
    so-next =
        let t = report k (part_of f x.start x.end) in
        let size = h.size in
        let within = h.within in
        let most = put.most in
        let many = front t in
        let back = length-drop (n + length t) after in
        let all = length-append (take n after ++ t) (drop (n + length t) after) in
        let less : length before - (n + length t) ≡ length before - n - length t = omega arith in
        let turn = filling_line (length before - n) f i k x room e in
        rw put.count (record {
          made =
              rw (put.bytes, take_at (take n after ++ t) (drop (n + length t) after) (n + length t) many, less)
              (again t (filling (length before - n - length t) f x.next (number_behind k)) turn);
          rest =
              rw (put.bytes, drop_at (take n after ++ t) (drop (n + length t) after) (n + length t) many)
              (sym (drop-drop (length t) n after) ∙ ap (drop (length t)) h.rest ∙ drop-drop (length t) n before);
          size = rw put.bytes (omega arith);
          within = omega arith;
        })
