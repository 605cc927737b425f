-- `findings::check_into` meets its contract: by what the checker answers, and by the room for it.
-- Assumes nothing.
use mathlib.Core.Path.{◌≡◌, refl, ap}
use lib.ListN.{length}
use lib.Seq.{length-take-le}
use Rattle.findings.proofs.Laws.Check.{finds_refused, finds_short, finds_all}
use Rattle.findings.proofs.check_into.Goals as goal

pub returns-then-found-lt25 : goal.returns-then-found-lt25
returns-then-found-lt25 c = finds_short _ _ _ c.check_master.ensures _ c.in-Ok.is c.if-found-lt25.true

pub returns-in-Err : goal.returns-in-Err
returns-in-Err c = finds_refused _ _ _ c.check_master.ensures _ c.in-Err.is

pub copy_from_slice-requires : goal.copy_from_slice-requires
copy_from_slice-requires c =
    let words : length c.found_in.result ≡ 25 = ap length c.found_in.ensures in
    rw (length-take-le 25 c.args.found.now c.if-found-lt25.false, words) refl

pub returns-else-found-lt25 : goal.returns-else-found-lt25
returns-else-found-lt25 c =
    let words : length c.found_in.result ≡ 25 = ap length c.found_in.ensures in
    finds_all _ _ _ c.check_master.ensures _ c.in-Ok.is c.if-found-lt25.false _ c.found_in.ensures _ (rw (c.copy_from_slice.ensures.after, words) refl)
