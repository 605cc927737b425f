-- `lexer::highest` meets its contract. The loop's invariant: the highest of all bytes is that of those from here, after the one held.
-- Assumes nothing.
use mathlib.Core.Path.{◌≡◌, refl, sym, ◌∙◌}
use native.Mathlib.Omega.{arith}
use lib.ListN.{length}
use lib.Seq.{drop-length}
use Rattle.lexer.specs.Steps.{highest}
use Rattle.lexer.proofs.Laws.Plain.{highest-more, highest-same}
use Rattle.lexer.proofs.highest.Goals as goal
use Rattle.lexer.proofs.highest.Goals.{then-most-b, else-most-b}

pub loop-b-preserved : goal.loop-b-preserved
loop-b-preserved c =
    let l = c.loop-b in
    let t = c.args.line.now in
    let h = c.loop-b-test.true in
    l.invariant ∙ elim c.if-most-b.branch [
      | then-most-b w ↦ rw w.most-is (highest-more t l.b-index l.most h w.if-most-b.true)
      | else-most-b w ↦ rw w.most-is (highest-same t l.b-index l.most h w.if-most-b.false)
    ]

pub returns : goal.returns
unfolding highest
returns c =
    let l = c.loop-b in
    let t = c.args.line.now in
    let e : l.b-index ≡ length t = omega arith in
    sym (l.invariant ∙ rw (e, drop-length t) refl)
