-- Two lines that agree on columns have the same bytes there.
--     inside_in      a column between two is inside
--     slice_same     a part of the same length
--     part_same      what stands in columns that both lines reach, or neither
--     reached-same   what lines of one length reach of columns
--     rest-same      and what stands from a column on
-- Assumes nothing.
use Prim.Native.Nat.{ℕ, ◌+◌, ◌-◌, ◌<◌, ◌≤◌}
use mathlib.Core.Path.{◌≡◌, refl, sym, ◌∙◌}
use mathlib.Core.Bool.{Bool, true, false, cond}
use mathlib.Core.List.{List, []}
use native.Mathlib.Omega.{arith}
use borrow.Author.Tests.{ltb-false, lt-ltb, le-leb}
use lib.ListN.{length, take, drop, get_or, length-take, length-drop}
use lib.Seq.{ext_get_or, get_or-take, get_or-drop}
use lib.Dec.{ltb, leb}
use Rattle.line.specs.Columns.{part_of, reached_of, rest_of}
use Rattle.line.specs.declared.columns.Columns.{Columns}
use Rattle.number.proofs.Laws.Choice.{and_both}
use Rattle.margins.specs.Taken.{inside}

pub inside_in : (at : Columns) (i : ℕ) → at.start ≤ i → i < at.end → inside at i ≡ true
unfolding inside
inside_in at i p q = and_both (le-leb at.start i p) (lt-ltb i at.end q)

module _ (l m : List ℕ) where
  pub slice_same : (a n : ℕ) → length (take n (drop a l)) ≡ length (take n (drop a m))
      → ((i : ℕ) → a ≤ i → i < a + n → get_or l i 0 ≡ get_or m i 0) → take n (drop a l) ≡ take n (drop a m)
  slice_same a n e h =
      ext_get_or 0 (take n (drop a l)) (take n (drop a m)) e
      (λ i q.
      let w = length-take n (drop a l) in
      let r : i < n = omega arith in
      get_or-take n (drop a l) i 0 r
      ∙ get_or-drop a l i 0
      ∙ h (a + i) (omega arith) (omega arith)
      ∙ sym (get_or-drop a m i 0)
      ∙ sym (get_or-take n (drop a m) i 0 r))

  pub part_same : (at : Columns) → ltb (length l) at.end ≡ ltb (length m) at.end
      → ((i : ℕ) → inside at i ≡ true → get_or l i 0 ≡ get_or m i 0) → part_of l at ≡ part_of m at
  unfolding part_of
  part_same at e h = go (ltb (length l) at.end) refl
    where
      go : (b : Bool) → ltb (length l) at.end ≡ b
          → cond (ltb (length l) at.end) [] (take (at.end - at.start) (drop at.start l))
          ≡ cond (ltb (length m) at.end) [] (take (at.end - at.start) (drop at.start m))
      go true p = rw (sym e ∙ p, p) refl
      go false p =
          let q = sym e ∙ p in
          let a = ltb-false (length l) at.end p in
          let b = ltb-false (length m) at.end q in
          let n = at.end - at.start in
          let f : length (take n (drop at.start l)) ≡ length (take n (drop at.start m)) = simp (length-take, length-drop) (omega arith) in
          rw (q, p) (slice_same at.start n f (λ i x y. h i (inside_in at i x (omega arith))))

  module _ (e : length l ≡ length m) where
    pub reached-same : (at : Columns) → ((i : ℕ) → inside at i ≡ true → get_or l i 0 ≡ get_or m i 0) → reached_of l at ≡ reached_of m at
    unfolding reached_of
    reached-same at h =
        let n = at.end - at.start in
        let f : length (take n (drop at.start l)) ≡ length (take n (drop at.start m)) = simp (length-take, length-drop, e) refl in
        slice_same at.start n f (λ i x y. h i (inside_in at i x (omega arith)))

    pub rest-same : (start : ℕ) → ((i : ℕ) → leb start i ≡ true → get_or l i 0 ≡ get_or m i 0) → rest_of l start ≡ rest_of m start
    unfolding rest_of
    rest-same start h =
        ext_get_or 0 (drop start l) (drop start m) (simp (length-drop, e) refl)
        (λ i q. get_or-drop start l i 0 ∙ h (start + i) (le-leb start (start + i) (omega arith)) ∙ sym (get_or-drop start m i 0))
