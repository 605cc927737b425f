-- `cell::text::put_pointed` meets its contract: the calls put the parts of `pointed` one behind the other.
-- Assumes nothing.
use native.Mathlib.Nat.{lt_of_le_of_lt, one-le-pow, pow-le-pow_right, zero-lt-suc}
use lib.Dec.{lit<}
use Rattle.page.proofs.Laws.Page.{put_then}
use Rattle.cell.proofs.Laws.Put.{pointed-none, pointed-some}
use Rattle.cell.proofs.text.put_pointed.Goals as goal

pub returns-then-q-eq0 : goal.returns-then-q-eq0
returns-then-q-eq0 c = rw (pointed-none _ _ c.if-q-eq0.true) at c.put_unsigned.ensures

pub pow-requires : goal.pow-requires
pow-requires c = lt_of_le_of_lt (pow-le-pow_right (zero-lt-suc 9) c.requires) (lit< tt)

pub nonzero_div-n : goal.nonzero_div-n
nonzero_div-n c = rw c.pow.ensures (one-le-pow c.args.q 10 (zero-lt-suc 9))

pub returns : goal.returns
returns c =
    rw (pointed-some _ _ c.if-q-eq0.false) at
    (put_then _ _ _ _ _ (rw c.pow.ensures at c.put_unsigned-point.ensures)
    (put_then _ _ _ _ _ c.put_byte-last.ensures c.put_last.ensures))
