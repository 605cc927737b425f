-- Where lines stand in their file.
--     placed-texts      the lines that are placed are the file's, in order
--     masters_stand     and each MASTER line among them stands in the file from where it is said to start
-- Assumes nothing.
use Prim.Native.Nat.{ℕ, zero, suc, ◌+◌, ◌-◌, ◌≤◌}
use mathlib.Core.Path.{◌≡◌, refl, ap, ◌∙◌}
use mathlib.Core.Bool.{Bool, true, false, cond}
use mathlib.Core.List.{List, [], ◌∷◌, map}
use Rattle.std.proofs.Common.{Some}
use native.Mathlib.Omega.{arith}
use borrow.Author.Tests.{ltb-true, ltb-false}
use lib.Dec.{ltb}
use lib.ListN.{length, take, drop}
use Rattle.carry.specs.Pieces.{Stretch, texts, stretches_of}
use Rattle.carry.proofs.Laws.Pieces.{texts-of}
use Rattle.carry.proofs.Laws.Step.{stretch-end, stretch-next}
use Rattle.tally.specs.Names.{is_master}
use Rattle.walker.specs.Lines.{lines_of, line_taken, step_at}
use Rattle.walker.specs.declared.Line.{Line}
use Rattle.walker.proofs.Laws.Lines.{step_in, step_end, step-served}
use Rattle.audit.specs.Audit.{Placed, placed, masters, masters_of}
use Rattle.audit.specs.When.{StandIn}

placed-text : (at : ℕ) (ss : List Stretch) → map (λ (p : Placed). p.text) (placed at ss) ≡ texts ss
placed-text at [] = refl
placed-text at (s ∷ ss) = ap (λ (rest : List (List ℕ)). s.text ∷ rest) (placed-text (at + s.taken) ss)

pub placed-texts : (f : List ℕ) → map (λ (p : Placed). p.text) (placed 0 (stretches_of f)) ≡ lines_of f
placed-texts f = placed-text 0 (stretches_of f) ∙ texts-of f

taken-again : (k : ℕ) (l : List ℕ) → take (length (take k l)) l ≡ take k l
taken-again zero l = refl
taken-again (suc k) [] = refl
taken-again (suc k) (b ∷ t) = ap (λ (rest : List ℕ). b ∷ rest) (taken-again k t)

module _ (f : List ℕ) where
  placed-next : (at : ℕ) (l : Line) → step_at f at ≡ Some l → StandIn f (placed l.next (stretches_of (drop l.next f)))
      → StandIn f (placed at (stretches_of (drop at f)))
  placed-next at l e rest =
      let s = step-served f at l e in
      let moves = s.moves in
      let behind : at + (l.next - at) ≡ l.next = omega arith in
      rw (stretch-next f at l e, behind, s.part, s.first) (taken-again (l.end - at) (drop at f), rest)

  placed_stand : (n at : ℕ) → length f ≤ at + n → StandIn f (placed at (stretches_of (drop at f)))
  placed_stand zero at h = rw (stretch-end f at ((step_end f at).1 (omega arith))) tt
  placed_stand (suc n) at h = go (ltb at (length f)) refl (placed_stand n)
    where
      go : (b : Bool) → ltb at (length f) ≡ b → ((next : ℕ) → length f ≤ next + n → StandIn f (placed next (stretches_of (drop next f))))
          → StandIn f (placed at (stretches_of (drop at f)))
      go false e rest = rw (stretch-end f at ((step_end f at).1 (ltb-false at (length f) e))) tt
      go true e rest =
          let here = step_in f at (ltb-true at (length f) e) in
          let s = step-served f at _ here in
          let moves = s.moves in
          placed-next at _ here (rest (at + line_taken (drop at f)) (omega arith))

  masters-among : (ps : List Placed) → StandIn f ps → StandIn f (masters ps)
  masters-among [] h = tt
  masters-among (p ∷ ps) h = go (is_master p.text) (masters-among ps h.1)
    where
      go : (b : Bool) → StandIn f (masters ps) → StandIn f (cond b (p ∷ masters ps) (masters ps))
      go true rest = (h.0, rest)
      go false rest = rest

  pub masters_stand : StandIn f (masters_of f)
  unfolding masters_of
  masters_stand = masters-among (placed 0 (stretches_of f)) (placed_stand (length f) 0 (omega arith))
