-- `number::trim::trim_end` meets its contract: what is kept is within the text.
-- Assumes nothing.
use Prim.Native.Nat.{ℕ}
use mathlib.Core.Path.{sym, ap}
use lib.ListN.{take}
use lib.Seq.{length-take-le}
use Rattle.number.specs.Trim.{end_trimmed}
use Rattle.number.proofs.Laws.Trim.{kept-le}
use Rattle.number.proofs.trim.trim_end.Goals as goal

pub slice_bounds-result-end : goal.slice_bounds-result-end
slice_bounds-result-end c =
    let t = c.args.text.now in
    sym (length-take-le c.kept_length-n.result t (rw c.kept_length-n.ensures (kept-le t)))

pub returns : goal.returns
unfolding end_trimmed
returns c =
    let t = c.args.text.now in
    ap (λ (n : ℕ). take n t) c.kept_length-n.ensures
