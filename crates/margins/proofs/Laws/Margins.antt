-- "Margins that cannot matter": a line that differs from another only in columns given to no field of its kind is answered the same, whatever is
-- asked of it, with the same record, faults or refusal.
--     kinds-same       it has the same kind
--     faults-same      the same faults
--     items_same       the same record
--     tests_same       each refusal is given to both, or to neither
--     margins          so the answer is the same
--     margins_as       as a line of any kind that is handed in
--     margins-kind     and when its kind alone is asked
-- Assumes nothing.
use Prim.Native.Nat.{ℕ}
use mathlib.Core.Path.{◌≡◌, refl, sym, ap, ◌∙◌}
use mathlib.Core.Bool.{Bool, true, false, ◌||◌}
use mathlib.Core.List.{List}
use Rattle.std.specs.Prelude.{Ok, Err}
use borrow.Author.Tests.{eqb-true, eqb-false}
use lib.ListN.{get_or}
use lib.Dec.{eqb}
use Rattle.number.proofs.Laws.Choice.{clash}
use Rattle.field.specs.Table.{table_faults}
use Rattle.kind.specs.declared.Kind.{Kind}
use Rattle.line.specs.declared.options.Mode.{Mode}
use Rattle.lexitem.specs.Describe.{describe, bound_of, table_of, fields_by, item_of, faults_of}
use Rattle.lexer.specs.Lexed.{refused, accepted, first_of, lexed, lexed_as, bare, kind_asked}
use Rattle.lexer.specs.Refusals.{Input, Test, Asking, kind, given, faults, plain, tests}
use Rattle.lexer.specs.Refusals.Asking.{its_kind, its_record, record_as}
use Rattle.margins.specs.Taken.{table_takes, decides, given_to}
use Rattle.margins.specs.Differ.{Differ, with_line}
use Rattle.margins.proofs.Laws.Entries.{on, or_left, or_right, AgreeOn, same-table, fault-table}
use Rattle.margins.proofs.Laws.Records.{part_decided, item-same}
use Rattle.margins.proofs.Laws.Tests.{kind-same, plain-low, long_same, cut-same, missing-same}

-- ---- what differs nowhere but in the margins is the same in the columns of the line's own table
same_or : (a b : ℕ) → ((a ≡ b → ⊥) → ⊥) → a ≡ b
same_or a b f = go (eqb a b) refl
  where
    go : (x : Bool) → eqb a b ≡ x → a ≡ b
    go true e = eqb-true a b e
    go false e = absurd (f (eqb-false a b e))

-- a column of a table is given, with the part that only some lines have or without
table-given : (mode : Mode) (k : Kind) (part : Bool) (column : ℕ) → table_takes (table_of mode k part) column ≡ true → given_to mode k column ≡ true
table-given mode k part column e = or_right (decides k column) (with || without) (either part e)
  where
    with : Bool
    with = table_takes (table_of mode k true) column

    without : Bool
    without = table_takes (table_of mode k false) column

    either : (b : Bool) → table_takes (table_of mode k b) column ≡ true → with || without ≡ true
    either true p = or_left with without p
    either false p = or_right with without p

module _ (i : Input) (m : List ℕ) (d : Differ i m) where
  abbrev l : List ℕ
  l = i.line

  abbrev mode : Mode
  mode = i.options.mode

  agree : (column : ℕ) → given_to mode (kind i) column ≡ true → get_or l column 0 ≡ get_or m column 0
  agree column p = same_or (get_or l column 0) (get_or m column 0) (λ n. clash p (d.only column n))

  pub fields-agree : AgreeOn l m (fields_by (kind i) (given i))
  fields-agree column p = agree column (table-given mode (kind i) ((describe (kind i)).part l) column p)

  parts_same : (describe (kind i)).part l ≡ (describe (kind i)).part m
  parts_same =
      part_decided l m (kind i) d.long
      (λ column p.
      agree column
      (or_left (decides (kind i) column) (table_takes (table_of mode (kind i) true) column || table_takes (table_of mode (kind i) false) column) p))

  -- ---- the answer
  pub kinds-same : kind i ≡ kind (with_line i m)
  kinds-same = kind-same l m d.long d.first i.options.atoms mode

  pub faults-same : faults i ≡ faults (with_line i m)
  unfolding faults_of
  faults-same =
      fault-table l m d.long i.options i.remarks (fields_by (kind i) (given i)) fields-agree
      ∙ ap (λ (b : Bool). table_faults (on i.options i.remarks m) (table_of mode (kind i) b)) parts_same
      ∙ ap (λ (k : Kind). table_faults (on i.options i.remarks m) (fields_by k (on i.options i.remarks m))) kinds-same

  pub items_same : item_of (kind i) (given i) ≡ item_of (kind (with_line i m)) (given (with_line i m))
  items_same =
      item-same l m i.options i.remarks (kind i) parts_same
      (same-table l m d.long i.options.exponents (fields_by (kind i) (given i)) fields-agree)
      ∙ ap (λ (k : Kind). item_of k (on i.options i.remarks m)) kinds-same

  pub tests_same : (a : Asking) → tests a i ≡ tests a (with_line i m)
  tests_same a =
      let q = d.long in
      let k = kinds-same in
      let p : plain l ≡ plain m = plain-low l d.low ∙ d.long ∙ sym (plain-low m d.other) in
      let r = long_same l m d.long (kind i) mode i.options.loose fields-agree in
      let c = cut-same l m d.long (bound_of (kind i)) in
      let n = missing-same l m d.long (bound_of (kind i)) in
      cc

  accepted-same : accepted i ≡ accepted (with_line i m)
  accepted-same = rw (faults-same, items_same, kinds-same) refl

  pub margins : lexed i ≡ lexed (with_line i m)
  unfolding lexed
  margins =
      ap (λ (ts : List Test). first_of (refused i) ts (accepted i)) (tests_same its_record)
      ∙ ap (first_of (refused i) (tests its_record (with_line i m))) accepted-same

  pub margins_as : (k : Kind) → lexed_as k i ≡ lexed_as k (with_line i m)
  unfolding lexed_as
  margins_as k =
      ap (λ (ts : List Test). first_of (refused i) ts (accepted i)) (tests_same (record_as k))
      ∙ ap (first_of (refused i) (tests (record_as k) (with_line i m))) accepted-same

pub margins-kind : (i : Input) (m : List ℕ) → Differ i m → kind_asked i.line i.options ≡ kind_asked m i.options
unfolding kind_asked
margins-kind i m d =
    let own = bare i.line i.options in
    let other = bare m i.options in
    let alone : Differ own m = record { long = d.long; first = d.first; low = d.low; other = d.other; only = d.only } in
    ap (λ (ts : List Test). first_of Err ts (Ok (kind own))) (tests_same own m alone its_kind)
    ∙ ap (λ (k : Kind). first_of Err (tests its_kind other) (Ok k)) (kinds-same own m alone)
