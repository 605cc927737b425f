-- `number::whole::read_run` meets its contract. The loop's invariant: from here, with the number so far, the run is the whole text's.
-- Assumes nothing.
use mathlib.Core.Path.{◌≡◌, sym, ◌∙◌}
use native.Mathlib.Omega.{arith}
use lib.ListN.{get_or, length}
use Rattle.number.proofs.Laws.Run.{run_joins, run_stops, run_ends, joins-low, joins-high, joins-full, joins-on}
use Rattle.number.proofs.whole.read_run.Goals.{then-b-lt48-via-then-b-lt48, then-b-lt48-via-else-b-lt48+then-b-gt57}
use Rattle.number.proofs.whole.read_run.Goals as goal

pub returns-then-b-lt48 : goal.returns-then-b-lt48
returns-then-b-lt48 c =
    let t = c.args.text.now in
    let l = c.loop-i in
    let b = get_or t l.i 0 in
    elim c.then-b-lt48.branch [
      | then-b-lt48-via-then-b-lt48 w ↦ sym (run_stops t l.value l.i c.loop-i-test.true (joins-low l.value b w.if-b-lt48.true)) ∙ l.invariant
      | then-b-lt48-via-else-b-lt48+then-b-gt57 w ↦ sym (run_stops t l.value l.i c.loop-i-test.true (joins-high l.value b w.if-b-gt57.true)) ∙ l.invariant
    ]

pub returns-then-d-value : goal.returns-then-d-value
returns-then-d-value c =
    let t = c.args.text.now in
    let l = c.loop-i in
    sym (run_stops t l.value l.i c.loop-i-test.true (joins-full l.value (get_or t l.i 0) (omega arith))) ∙ l.invariant

pub loop-i-preserved : goal.loop-i-preserved
loop-i-preserved c =
    let t = c.args.text.now in
    let l = c.loop-i in
    let j = joins-on l.value (get_or t l.i 0) c.if-b-lt48.false c.if-b-gt57.false (omega arith) in
    sym (run_joins t l.value l.i c.loop-i-test.true j) ∙ l.invariant

pub returns : goal.returns
returns c =
    let t = c.args.text.now in
    let l = c.loop-i in
    let e : l.i ≡ length t = omega (arith, l.auto.i-end, c.loop-i-test.false) in
    sym (run_ends t l.value (length t) (omega arith)) ∙ rw e at l.invariant
