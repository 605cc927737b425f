-- `line::columns::Columns::part` meets its contract: where the columns end before they start, none are taken.
-- Assumes nothing.
use Rattle.std.proofs.Common.{◌≡◌, ◌-◌, refl, inl, inr, Bool, true, false, cond, List, [], ℕ, length, arith, ltb}
use borrow.Author.Tests.{lt-ltb, le-ltb}
use Rattle.line.specs.Columns.{part_of}
use Rattle.line.proofs.Laws.Parts.{part-or}
use Rattle.line.proofs.columns.Columns.part.Goals as goal

none : (b : Bool) → ◌≡◌ {A = List ℕ} [] (cond b [] [])
none true = refl
none false = refl

pub returns : goal.returns
unfolding part_of
returns c =
    let a = c.args.self in
    let l = c.args.line.now in
    rw c.unwrap_or.ensures
    (part-or (λ t. t ≡ part_of l a) l a.start a.end _ _ c.get.ensures.lookup
    (λ h. elim h [
      | inl k ↦ let z : a.end - a.start ≡ 0 = omega arith in rw z (none (ltb (length l) a.end))
      | inr k ↦ rw (lt-ltb (length l) a.end k) refl
    ])
    (λ h k. rw (le-ltb (length l) a.end k) refl))
