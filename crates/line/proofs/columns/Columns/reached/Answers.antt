-- `line::columns::Columns::reached` meets its contract: a rest that is shorter than the columns is taken whole.
-- Assumes nothing.
use Rattle.std.proofs.Common.{◌≡◌, ◌-◌, refl, sym, ap, ◌∙◌, length, drop, arith}
use lib.Seq.{take_all}
use Rattle.line.specs.Columns.{rest_of, reached_of}
use Rattle.line.proofs.Laws.Parts.{part-or}
use Rattle.line.proofs.columns.Columns.reached.Goals as goal

pub returns : goal.returns
unfolding rest_of reached_of
returns c =
    let a = c.args.self in
    let l = c.args.line.now in
    let e = c.from_column-rest.ensures in
    let w = c.width.ensures in
    let n = ap length e in
    rw c.unwrap_or.ensures
    (part-or (λ t. t ≡ reached_of l a) c.from_column-rest.result.now 0 c.width.result _ _ c.get.ensures.lookup
    (λ h. e ∙ sym (take_all (a.end - a.start) (drop a.start l) (omega (arith, h))))
    (λ h k. let z : a.end - a.start - 0 ≡ a.end - a.start = omega arith in rw (e, w, z) refl))
