-- `kind::any_kind` meets its contract: a name is found by its number.
-- Assumes nothing.
use mathlib.Core.Path.{sym, ◌∙◌}
use native.Mathlib.Omega.{arith}
use borrow.Author.Tests.{lt-ltb, le-ltb}
use lib.ListN.{length}
use Rattle.kind.proofs.Laws.Table.{names-six, kind-by_front}
use Rattle.kind.specs.Kind.{kind_of, names_by, short_names}
use Rattle.kind.proofs.any_kind.Goals as goal

pub returns-then-line-gt6 : goal.returns-then-line-gt6
unfolding kind_of
returns-then-line-gt6 c =
    let l = c.args.line.now in
    let atoms = c.args.atoms in
    let long = lt-ltb 6 (length l) (omega arith) in
    let known = kind-by_front 6 (names_by atoms) l c.shared_slice_known-1.given (omega arith) (names-six atoms) in
    rw (long, known, ← c.six.ensures) c.named_by.ensures

pub returns-then-ends_model : goal.returns-then-ends_model
unfolding kind_of
returns-then-ends_model c =
    let l = c.args.line.now in
    rw (le-ltb 6 (length l) (omega arith), sym c.ends_model.ensures ∙ c.if-ends_model.true)

pub returns-then-line-gt2 : goal.returns-then-line-gt2
unfolding kind_of
returns-then-line-gt2 c =
    let l = c.args.line.now in
    let short = le-ltb 6 (length l) (omega arith) in
    let long = lt-ltb 2 (length l) c.if-line-gt2.true in
    let known = kind-by_front 3 short_names l c.shared_slice_known-1.given (omega arith) tt in
    rw (short, sym c.ends_model.ensures ∙ c.if-ends_model.false, long, known, ← c.three.ensures) c.named_short.ensures

pub returns : goal.returns
unfolding kind_of
returns c =
    let l = c.args.line.now in
    rw (
      le-ltb 6 (length l) (omega arith),
      sym c.ends_model.ensures ∙ c.if-ends_model.false,
      le-ltb 2 (length l) c.if-line-gt2.false,
    )
