-- Whether one of some counts is below what is said in its place.
--     fewer_here, fewer-next, fewer-end     one place further: it is, it isn't, and there is none
--     lacks-first, lacks_rest               lines are missing, by the first number and by those behind the second
-- Assumes nothing.
use Prim.Native.Nat.{ℕ, ◌+◌, ◌≤◌, ◌<◌}
use mathlib.Core.Path.{◌≡◌, refl, sym, ◌∙◌}
use mathlib.Core.Bool.{Bool, true, false}
use mathlib.Core.List.{List}
use native.Mathlib.Numerals.{add-one}
use native.Mathlib.Omega.{arith}
use borrow.Author.Tests.{lt-ltb, le-ltb}
use lib.ListN.{length, take, drop, get_or, drop_of_length-le}
use lib.Seq.{drop-cons}
use Rattle.master.specs.declared.record.Master.{Master}
use Rattle.tally.specs.Compare.{counts_of, said_by}
use Rattle.tally.specs.declared.Tally.{Tally}
use Rattle.verdict.specs.Verdict.{fewer, lacks}

module _ (s t : List ℕ) (e : length s ≡ length t) (i : ℕ) (v : fewer (drop i s) (drop i t) ≡ fewer s t) where
  pub fewer-end : length t ≤ i → false ≡ fewer s t
  unfolding fewer
  fewer-end h = let k : length s ≤ i = omega arith in rw (drop_of_length-le s k) at v

  module _ (h : i < length t) where
    pub fewer_here : get_or s i 0 < get_or t i 0 → true ≡ fewer s t
    unfolding fewer
    fewer_here l =
        let k : i < length s = omega arith in
        rw (drop-cons s i 0 k, drop-cons t i 0 h, lt-ltb (get_or s i 0) (get_or t i 0) l) at v

    pub fewer-next : get_or t i 0 ≤ get_or s i 0 → fewer (drop (i + 1) s) (drop (i + 1) t) ≡ fewer s t
    unfolding fewer
    fewer-next l =
        let k : i < length s = omega arith in
        rw (add-one i) (rw (drop-cons s i 0 k, drop-cons t i 0 h, le-ltb (get_or s i 0) (get_or t i 0) l) at v)

module _ (t : Tally) (m : Master) (s n : List ℕ) (a : s ≡ counts_of t) (b : n ≡ said_by m) (first : Bool) (e : first ≡ fewer (take 1 s) (take 1 n)) where
  pub lacks-first : first ≡ true → true ≡ lacks t m
  unfolding lacks
  lacks-first h = let f = rw (a, b) at e in rw (sym f ∙ h) refl

  pub lacks_rest : first ≡ false → (rest : Bool) → rest ≡ fewer (take 10 (drop 2 s)) (take 10 (drop 2 n)) → rest ≡ lacks t m
  unfolding lacks
  lacks_rest h rest r =
      let f = rw (a, b) at e in
      let g = rw (a, b) at r in
      rw (sym f ∙ h) g
