-- `report::fill::put_behind` meets its contract: as many bytes are handed on as the longest report needs.
-- Assumes nothing.
use Prim.Native.Nat.{◌+◌, ◌-◌}
use mathlib.Core.Path.{◌≡◌}
use native.Mathlib.Omega.{arith}
use Rattle.report.proofs.Laws.Behind.{put-behind}
use Rattle.report.proofs.fill.put_behind.Goals as goal

pub returns : goal.returns
returns c =
    let n = c.args.n in
    let m : n + 4096 - n ≡ 4096 = omega arith in
    put-behind _ _ _ _ n (n + 4096 - n) _ c.requires m c.put_line.ensures
