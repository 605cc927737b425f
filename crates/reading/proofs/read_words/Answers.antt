-- `reading::read_words` meets its contract: an atom is answered as one, and any other line as it is.
-- Assumes nothing.
use mathlib.Core.Bool.{true, false}
use Rattle.packing.specs.Options.{input_of}
use Rattle.reading.proofs.Laws.Read.{atom-answered}
use Rattle.reading.proofs.read_words.Goals as goal

pub read_atom-requires : goal.read_atom-requires
read_atom-requires c =
    let a = c.args in
    atom-answered (input_of a.line.now a.number a.options a.remarks.now) _ false c.if-remarks-ne1000.false c.kind_word-own.ensures c.if-own-eq3.true

pub returns-then-own-eq3 : goal.returns-then-own-eq3
returns-then-own-eq3 c = rw c.if-kind-ne4294967295.false c.read_atom.ensures

pub read_atom-requires-then-own-eq4 : goal.read_atom-requires-then-own-eq4
read_atom-requires-then-own-eq4 c =
    let a = c.args in
    atom-answered (input_of a.line.now a.number a.options a.remarks.now) _ true c.if-remarks-ne1000.false c.kind_word-own.ensures c.if-own-eq4.true

pub returns-then-own-eq4 : goal.returns-then-own-eq4
returns-then-own-eq4 c = rw c.if-kind-ne4294967295.false c.read_atom-then-own-eq4.ensures
