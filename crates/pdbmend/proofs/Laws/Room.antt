-- How much there is to write for a turn, and that a turn goes on.
--     text-room, turn-room     4,096 bytes have room for the lines, and 65,536 for the rows
--     puts-count               so many bytes were put as the text has
--     turn-held                there is room for one byte more then
--     turn-further             and a byte at least was taken, where there was one
-- Assumes nothing.
use Prim.Native.Nat.{ℕ, suc, ◌-◌, ◌^◌, ◌<◌, ◌≤◌}
use mathlib.Core.Path.{◌≡◌, refl, ap}
use mathlib.Core.Bool.{Bool, true, false, cond}
use mathlib.Core.List.{List, []}
use native.Mathlib.Omega.{arith}
use borrow.Author.Tests.{eqb-true, eqb-false, ltb-false}
use lib.ListN.{length, length-append, length-take, length-drop}
use lib.Dec.{eqb, ltb}
use Rattle.page.specs.Page.{Page, page, put}
use Rattle.page.proofs.Laws.Page.{put_count}
use Rattle.repair.proofs.Laws.Room.{rows-room, line-room}
use Rattle.walker.specs.Lines.{number_behind}
use Rattle.pdbmend.specs.Held.{State, state, none, text_of, stop, size_in, most_kept}
use Rattle.pdbmend.specs.Turn.{Said, said, line_in, text_as, end_as, text_said, ended_said, absorbed, Turn, turn}
use Rattle.pdbmend.proofs.Laws.Held.{stop_le}

abbrev pub Roomy : Said → Type 0
Roomy x = (length x.out ≤ 4096) × (length x.rows ≤ 65536)

text_as_lem : (over : Bool) (number : ℕ) (t : List ℕ) → length t ≤ 1026 → Roomy (text_as over number t)
text_as_lem true number t h = (omega arith, omega arith)
text_as_lem false number t h = (omega (arith, line-room t 1026 (omega arith) h), omega (arith, rows-room number t))

end_as_lem : (over : Bool) (number : ℕ) (t : List ℕ) → length t ≤ 1026 → Roomy (end_as over number t)
end_as_lem true number t h = (simp length-append (omega arith), omega arith)
end_as_lem false number t h =
    let k = size_in t (length t) in
    let short : length (line_in t) ≤ 1026 = omega (arith, length-take k t) in
    let a = line-room (line_in t) 1026 (omega arith) short in
    let b = length-drop k t in
    (simp length-append (omega arith), omega (arith, rows-room number (line_in t)))

text-short : (s : State) → s.held.n ≤ 1026 → length (text_of s) ≤ 1026
text-short s h = omega (arith, length-take s.held.n s.kept)

pub text-room : (s : State) → s.held.n ≤ 1026 → Roomy (text_said s)
text-room s h = text_as_lem s.held.over s.held.number (text_of s) (text-short s h)

-- the three ends of a turn
abbrev pub chosen : Bool → Bool → State → List ℕ → Turn
chosen x y s t =
    cond x
    (record {
      says = text_said (absorbed s t);
      after = state (record { n = 0; over = true; number = s.held.number }) (absorbed s t).kept;
      taken = stop (most_kept - s.held.n) t;
    })
    (cond y
    (record {
      says = ended_said (absorbed s t);
      after = state (none (number_behind s.held.number)) (absorbed s t).kept;
      taken = suc (stop (most_kept - s.held.n) t);
    })
    (record { says = said [] []; after = absorbed s t; taken = stop (most_kept - s.held.n) t }))

module _ (s : State) (t : List ℕ) (h : s.held.n < 1026) where
  whole : (absorbed s t).held.n ≤ 1026
  whole = omega (arith, (stop_le (most_kept - s.held.n) t).1)

  pub turn-room : Roomy (turn s t).says
  unfolding turn
  turn-room = go (eqb (absorbed s t).held.n most_kept) (ltb (stop (most_kept - s.held.n) t) (length t))
    where
      go : (x y : Bool) → Roomy (chosen x y s t).says
      go true y = text-room (absorbed s t) whole
      go false true = end_as_lem s.held.over s.held.number (text_of (absorbed s t)) (text-short (absorbed s t) whole)
      go false false = (omega arith, omega arith)

  pub turn-held : (turn s t).after.held.n < 1026
  unfolding turn
  turn-held = go (eqb (absorbed s t).held.n most_kept) refl (ltb (stop (most_kept - s.held.n) t) (length t))
    where
      go : (x : Bool) → eqb (absorbed s t).held.n most_kept ≡ x → (y : Bool) → (chosen x y s t).after.held.n < 1026
      go true e y = omega arith
      go false e true = omega arith
      go false e false = let z = eqb-false (absorbed s t).held.n most_kept e in omega (arith, whole)

  pub turn-further : 0 < length t → 0 < (turn s t).taken
  unfolding turn
  turn-further l = go (eqb (absorbed s t).held.n most_kept) refl (ltb (stop (most_kept - s.held.n) t) (length t)) refl
    where
      go : (x : Bool) → eqb (absorbed s t).held.n most_kept ≡ x → (y : Bool) → ltb (stop (most_kept - s.held.n) t) (length t) ≡ y → 0 < (chosen x y s t).taken
      go true e y f = let z = eqb-true (absorbed s t).held.n most_kept e in omega arith
      go false e true f = omega arith
      go false e false f = let z = ltb-false (stop (most_kept - s.held.n) t) (length t) f in omega arith

pub puts-count : (out text written : List ℕ) (n room : ℕ) → length text ≤ room → room < 2 ^ 64 → page written n ≡ put (page out 0) text → n ≤ room
puts-count out text written n room h k e = omega (arith, ap (λ (p : Page). p.at) e, put_count out text (omega arith))
