-- `line::columns::from_column` meets its contract.
-- Assumes nothing.
use Rattle.std.proofs.Common.{◌≡◌, ◌-◌, sym, length, drop, arith}
use lib.ListN.{length-drop, drop_of_length-le}
use lib.Seq.{take_all}
use Rattle.line.specs.Columns.{rest_of}
use Rattle.line.proofs.Laws.Parts.{part-or}
use Rattle.line.proofs.columns.from_column.Goals as goal

pub returns : goal.returns
unfolding rest_of
returns c =
    let i = c.args.start in
    let l = c.args.line.now in
    rw c.unwrap_or.ensures
    (part-or (λ t. t ≡ rest_of l i) l i (length l) _ _ c.get.ensures.lookup
    (λ h. sym (drop_of_length-le l {i = i} (omega (arith, h))))
    (λ h k. take_all (length l - i) (drop i l) (simp length-drop (omega arith))))
