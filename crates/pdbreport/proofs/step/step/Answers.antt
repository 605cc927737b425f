-- `pdbreport::step::step` meets its contract: bytes are kept up to an LF, and the line that it ends is told of.
-- Assumes nothing.
use Rattle.pdbreport.specs.Fed.{progress}
use Rattle.pdbreport.specs.Fed.Ends.{by_lf}
use Rattle.pdbreport.proofs.Laws.Came.{step-came, step-all, step-ended}
use Rattle.pdbreport.proofs.step.step.Goals as goal

pub returns-then-part-lf : goal.returns-then-part-lf
returns-then-part-lf g c = step-all (progress c.args.ledger.now c.args.held c.args.kept.now) _ _ _ _ c.absorb-absorbed.ensures c.requires.1 c.if-part-lf.true

pub tell_held-requires : goal.tell_held-requires
tell_held-requires g c = (step-came (progress c.args.ledger.now c.args.held c.args.kept.now) _ _ _ _ c.absorb-absorbed.ensures c.requires.1 c.requires.0, by_lf c.ended_size.ensures)

pub returns : goal.returns
returns g c = step-ended (progress c.args.ledger.now c.args.held c.args.kept.now) _ _ _ _ c.absorb-absorbed.ensures c.requires.1 _ _ _ _ c.if-part-lf.false c.ended_size.ensures c.tell_held.ensures c.following.ensures c.none.ensures
