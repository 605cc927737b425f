-- `seqres::read::count_triples` meets its contract. The loop's invariant: the triples are those passed and those from here on.
-- Assumes nothing.
use mathlib.Core.Path.{sym, ◌∙◌, ◌≡◌}
use Rattle.std.proofs.Common.{arith, ◌+◌, ◌*◌}
use Rattle.seqres.proofs.Laws.Triples.{triples-on, triples-short, triples-blank, triples_all}
use Rattle.seqres.proofs.read.count_triples.Goals.{then-line-at-via-then-line-at, then-line-at-via-else-line-at+then-is_blank_triple}
use Rattle.seqres.proofs.read.count_triples.Goals as goal

pub returns-then-line-at : goal.returns-then-line-at
returns-then-line-at c =
    let n = c.loop-n.n in
    let l = c.args.line.now in
    let h = c.loop-n-test.true in
    elim c.then-line-at.branch [
      | then-line-at-via-then-line-at w ↦ omega (arith, triples-short l n _ h w.if-line-at.true)
      | then-line-at-via-else-line-at+then-is_blank_triple w ↦
          omega (arith, triples-blank l n _ h w.if-line-at.false (sym w.is_blank_triple.ensures ∙ w.if-is_blank_triple.true))
    ]

pub loop-n-preserved : goal.loop-n-preserved
loop-n-preserved c =
    let n = c.loop-n.n in
    let e =
    triples-on c.args.line.now n _ c.loop-n-test.true c.if-line-at.false
    (sym c.is_blank_triple.ensures ∙ c.if-is_blank_triple.false) in
    let next : 19 + 4 * n + 4 ≡ 19 + 4 * (n + 1) = omega arith in
    let on = rw next at e in
    omega arith

pub returns : goal.returns
returns c = omega (arith, triples_all c.args.line.now c.loop-n.n (19 + 4 * c.loop-n.n) c.loop-n-test.false)
