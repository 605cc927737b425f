-- `reading::putput_faults` meets its contract. The loop's invariant: the words of the faults before i are put behind the place of their number.
-- Assumes nothing.
use mathlib.Core.Path.{refl, ◌∙◌}
use native.Mathlib.Omega.{arith}
use lib.ListN.{set, length-set}
use Rattle.layout.specs.Each.{each}
use Rattle.line.specs.Faults.{blank_fault}
use Rattle.kind.specs.declared.Kind.TheVariants.{Empty}
use Rattle.lexitem.specs.Fault.{told}
use Rattle.lexitem.specs.declared.fault.LineFault.{LineFault}
use Rattle.lexitem.proofs.Laws.Fault.{told_at}
use Rattle.reading.specs.Faults.{fault_words, faults_words}
use Rattle.wording.proofs.Laws.Words.{puts_none, puts-next, puts-all}
use Rattle.reading.proofs.Laws.Faults.{puts-fault, front-one}
use Rattle.reading.proofs.faults.put_faults.Goals as goal

-- where there is no fault
abbrev none : LineFault
none = record { line = 0; kind = Empty; fault = blank_fault }

pub loop-i-init : goal.loop-i-init
unfolding each
loop-i-init c = (refl, omega arith, puts_none _ _)

pub bounds-out-next : goal.bounds-out-next
bounds-out-next c =
    let l = c.loop-i.invariant in
    let start = c.requires in
    let here = c.loop-i-test.true in
    omega arith

pub bounds-out-next-in-loop-i : goal.bounds-out-next-in-loop-i
bounds-out-next-in-loop-i c =
    let l = c.loop-i.invariant in
    let start = c.requires in
    let here = c.loop-i-test.true in
    simp length-set (omega arith)

pub loop-i-preserved : goal.loop-i-preserved
loop-i-preserved c =
    let l = c.loop-i in
    let a = c.args in
    let here = c.loop-i-test.true in
    let room = c.requires in
    let put = puts-fault l.out l.next _ _ _ (c.at-fault.ensures ∙ told_at a.faults l.i none (omega arith)) c.fault_word.ensures in (
      length-set (set l.out l.next _) _ _ ∙ length-set l.out l.next _ ∙ l.invariant.0,
      omega arith,
      puts-next fault_words (told a.faults) _ _ l.i none _ _ _ _ (omega arith) l.invariant.2 put,
    )

pub bounds-out-0 : goal.bounds-out-0
bounds-out-0 c =
    let l = c.loop-i.invariant in
    let start = c.requires in
    omega arith

pub shape_of-out : goal.shape_of-out
shape_of-out c = length-set c.loop-i.out 0 _ ∙ c.loop-i.invariant.0

pub returns : goal.returns
unfolding faults_words
returns c =
    let a = c.args in
    let l = c.loop-i in
    let room = c.requires in
    let done = c.loop-i-test.false in
    let all = puts-all fault_words (told a.faults) a.out.now 1 l.i l.out l.next (omega arith) l.invariant.2 in
    let far = all.behind in
    rw c.requires.2 (front-one a.out.now l.out (each fault_words (told a.faults)) l.next a.faults.count (omega arith) all)
