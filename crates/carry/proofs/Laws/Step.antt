-- The stretches of a file, step by step.
--     stretch-end, stretch-next     from an offset on: none at the end; else the line that stands there, and those behind it
-- Assumes nothing.
use Prim.Native.Nat.{ℕ, ◌+◌, ◌-◌}
use mathlib.Core.Path.{◌≡◌, refl, sym, ap, ◌∙◌}
use mathlib.Core.List.{List, [], ◌∷◌}
use Rattle.std.proofs.Common.{Some, None}
use Rattle.std.proofs.lemmas.Option.{same_Some}
use native.Mathlib.Omega.{arith}
use lib.ListN.{drop}
use lib.Seq.{drop-drop}
use Rattle.carry.specs.Pieces.{stretch, stretches, stretches_of}
use Rattle.walker.specs.declared.Line.{Line}
use Rattle.walker.specs.Lines.{line_taken, step_at, part_of}
use Rattle.walker.proofs.Laws.Lines.{step_in, step_end, step-served, end-lines}

module _ (f : List ℕ) (at : ℕ) where
  pub stretch-end : step_at f at ≡ None → stretches_of (drop at f) ≡ []
  unfolding stretches_of
  stretch-end e = rw (end-lines f at ((step_end f at).0 e)) refl

  pub stretch-next : (l : Line) → step_at f at ≡ Some l
      → stretches_of (drop at f) ≡ stretch (part_of f l.start l.end) (l.next - at) ∷ stretches_of (drop l.next f)
  unfolding stretches_of
  stretch-next l e =
      let s = step-served f at l e in
      let i = step_in f at (let m = s.moves in let w = s.within in omega arith) in
      let b : l.next ≡ at + line_taken (drop at f) = ap (λ (k : Line). k.next) (same_Some _ _ (sym e ∙ i)) in
      let n : line_taken (drop at f) ≡ l.next - at = omega arith in
      let d : drop (line_taken (drop at f)) (drop at f) ≡ drop l.next f = drop-drop (line_taken (drop at f)) at f ∙ ap (λ (k : ℕ). drop k f) (sym b) in
      ap (stretches (drop at f)) s.lines ∙ rw (d, n, s.part) refl
