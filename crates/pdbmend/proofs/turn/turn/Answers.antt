-- `pdbmend::turn::turn` meets its contract.
-- Assumes nothing.
use Rattle.pdbmend.proofs.Laws.Turn.{turn-full, turn-none, turn-ended}
use Prim.Native.Nat.{◌-◌}
use lib.ListN.{drop}
use Rattle.pdbmend.proofs.Laws.Held.{stop_le}
use borrow.Author.Rules.{rules}
use Rattle.pdbmend.proofs.turn.turn.Goals as goal

pub returns-then-n-eq1026 : goal.returns-then-n-eq1026
returns-then-n-eq1026 c = turn-full _ _ _ _ _ _ c.absorb-absorbed.ensures _ _ _ _ _ c.if-n-eq1026.true c.put_text-put.ensures

pub returns-then-part-lf : goal.returns-then-part-lf
returns-then-part-lf c = turn-none _ _ _ _ _ _ c.absorb-absorbed.ensures _ _ c.if-n-eq1026.false c.if-part-lf.true

pub put_ended-put-requires : goal.put_ended-put-requires
put_ended-put-requires c =
    let count = c.absorb-absorbed.ensures.count in
    let most = (stop_le (1026 - c.args.held.n) (drop c.args.at c.args.part.now)).1 in
    (search rules, search rules)

pub returns : goal.returns
returns c = turn-ended _ _ _ _ _ _ c.absorb-absorbed.ensures _ _ _ _ _ c.if-n-eq1026.false c.if-part-lf.false c.put_ended-put.ensures _ _ c.following.ensures c.none.ensures
