-- `reading::putfault_word` meets its contract: each part has its own bits.
-- Assumes nothing.
use native.Mathlib.Omega.{arith}
use Rattle.reading.proofs.Laws.Faults.{number-of, few-of, sort_of_lem}
use Rattle.reading.proofs.faults.fault_word.Goals as goal

pub overflow_mul-result : goal.overflow_mul-result
overflow_mul-result c = let n = few-of _ c.args.fault.fault.kind c.number.ensures in omega arith

pub overflow_add-result : goal.overflow_add-result
overflow_add-result c = let n = few-of _ c.args.fault.fault.kind c.number.ensures in let k = number-of _ c.args.fault.kind c.number_of.ensures in omega arith

pub overflow_mul-result-2 : goal.overflow_mul-result-2
overflow_mul-result-2 c = let s = sort_of_lem _ c.args.fault.fault.kind c.sort_of.ensures in omega arith

pub overflow_add-result-2 : goal.overflow_add-result-2
overflow_add-result-2 c =
    let s = sort_of_lem _ c.args.fault.fault.kind c.sort_of.ensures in
    let n = few-of _ c.args.fault.fault.kind c.number.ensures in
    let k = number-of _ c.args.fault.kind c.number_of.ensures in
    let small = c.well_formed in
    omega arith

pub overflow_add-result-3 : goal.overflow_add-result-3
overflow_add-result-3 c =
    let s = sort_of_lem _ c.args.fault.fault.kind c.sort_of.ensures in
    let n = few-of _ c.args.fault.fault.kind c.number.ensures in
    let k = number-of _ c.args.fault.kind c.number_of.ensures in
    let small = c.well_formed in
    omega arith

pub overflow_add-result-4 : goal.overflow_add-result-4
overflow_add-result-4 c =
    let s = sort_of_lem _ c.args.fault.fault.kind c.sort_of.ensures in
    let n = few-of _ c.args.fault.fault.kind c.number.ensures in
    let k = number-of _ c.args.fault.kind c.number_of.ensures in
    let small = c.well_formed in
    omega arith
