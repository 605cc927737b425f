-- A line in whose real fields no exponent stands is answered the same with the option for exponents on and off.
--     exponents-idle    the whole answer
-- Assumes nothing.
use Prim.Native.Nat.{ℕ}
use mathlib.Core.Path.{◌≡◌, refl, sym, ap, ◌∙◌}
use mathlib.Core.Bool.{Bool, true, false}
use mathlib.Core.List.{List, [], ◌∷◌}
use Rattle.std.specs.Prelude.{Option, Some, None, is_none, unwrap_or}
use Rattle.number.specs.Wide.{marked_of}
use Rattle.number.specs.declared.wide.Wide.{Wide}
use Rattle.number.proofs.Laws.Choice.{and_left, and_right}
use Rattle.real.specs.Real.{real, real_of}
use Rattle.real.specs.Wide.{wide_real, real_with}
use Rattle.real.specs.declared.Real.{Real}
use Rattle.real.proofs.Laws.WideReal.{off-is, on-is, marked-is}
use Rattle.line.specs.Columns.{part_of}
use Rattle.line.specs.Given.{Given}
use Rattle.field.specs.Number.{zero_real, real_at, places_at}
use Rattle.field.specs.Table.{Entry, faults_by, table_faults}
use Rattle.field.specs.Table.Entry.{u, i, r, t, c, c?, a, u-rest, x, t_within, t-rest, t-end, charge, known, given, unwritten, triples}
use Rattle.ssbond.specs.Ssbond.{has_tail, ssbond_table, tail_of}
use Rattle.kind.specs.declared.Kind.{Kind}
use Rattle.kind.specs.declared.Kind.TheVariants as kinds
use Rattle.lexitem.specs.Describe.{item_of, fields_by, faults_of}
use Rattle.lexer.specs.Refusals.{Input}
use Rattle.lexer.specs.Refusals as refusals
use Rattle.lexer.specs.Lexed.{lexed}
use Rattle.promises.specs.Idle.{with_exponents, unmarked_in, unmarked, idle}

-- ---- so its text says the same
said-idle : (text : List ℕ) → is_none (marked_of text) ≡ true → (on : Bool) → real_with on text ≡ real_with false text
said-idle text e false = refl
said-idle text e true = go (real_of text) refl
  where
    nothing : (w : Option Wide) → is_none w ≡ true → wide_real w ≡ None
    nothing (Some w) e = cc
    nothing None e = refl

    go : (read : Option Real) → real_of text ≡ read → real_with true text ≡ real_with false text
    go (Some said) is = on-is text is true ∙ sym (off-is text ∙ is)
    go None is = marked-is text is ∙ nothing (marked_of text) e ∙ sym (off-is text ∙ is)

module _ (l : List ℕ) (on : Bool) where
  -- a field has the same value
  abbrev Alike : Entry → Type 0
  Alike (u at) = Unit {0}
  Alike (i at) = Unit {0}
  Alike (r at default) = (real_at on l at default ≡ real_at false l at default) × (places_at on l at ≡ places_at false l at)
  Alike (t at) = Unit {0}
  Alike (c at) = Unit {0}
  Alike (c? at) = Unit {0}
  Alike (a at) = Unit {0}
  Alike (u-rest start) = Unit {0}
  Alike (x at) = Unit {0}
  Alike (t_within at) = Unit {0}
  Alike (t-rest start) = Unit {0}
  Alike (t-end start) = Unit {0}
  Alike (charge at) = Unit {0}
  Alike (known at) = Unit {0}
  Alike (given column) = Unit {0}
  Alike (unwritten column) = Unit {0}
  Alike (triples start) = Unit {0}

  abbrev AllAlike : List Entry → Type 0
  AllAlike [] = Unit {0}
  AllAlike (e ∷ rest) = Alike e × AllAlike rest

  entry_alike : (e : Entry) → unmarked_in l e ≡ true → Alike e
  unfolding real_at places_at
  entry_alike (u at) h = tt
  entry_alike (i at) h = tt
  entry_alike (r at default) h =
      let idle = said-idle (part_of l at) h on in
      (ap (λ (o : Option Real). (unwrap_or o (real default 0)).value) idle, ap (λ (o : Option Real). (unwrap_or o (real zero_real 0)).places) idle)
  entry_alike (t at) h = tt
  entry_alike (c at) h = tt
  entry_alike (c? at) h = tt
  entry_alike (a at) h = tt
  entry_alike (u-rest start) h = tt
  entry_alike (x at) h = tt
  entry_alike (t_within at) h = tt
  entry_alike (t-rest start) h = tt
  entry_alike (t-end start) h = tt
  entry_alike (charge at) h = tt
  entry_alike (known at) h = tt
  entry_alike (given column) h = tt
  entry_alike (unwritten column) h = tt
  entry_alike (triples start) h = tt

  table-alike : (es : List Entry) → unmarked l es ≡ true → AllAlike es
  table-alike [] h = tt
  table-alike (e ∷ es) h =
      (entry_alike e (and_left (unmarked_in l e) (unmarked l es) h), table-alike es (and_right (unmarked_in l e) (unmarked l es) h))

  tail-alike : (part : Bool) → AllAlike (ssbond_table part) → tail_of part on l ≡ tail_of part false l
  tail-alike true h = cc
  tail-alike false h = refl

-- ---- the record, and the faults
module _ (input : Input) (on : Bool) where
  abbrev line : List ℕ
  line = input.line

  abbrev own : Given
  own = refusals.given (with_exponents on input)

  abbrev other : Given
  other = refusals.given (with_exponents false input)

  item-alike : (k : Kind) → AllAlike line on (fields_by k other) → item_of k own ≡ item_of k other
  item-alike kinds.Empty h = refl
  item-alike kinds.Header h = refl
  item-alike kinds.Remark h = refl
  item-alike kinds.Atom h = cc
  item-alike kinds.Hetatm h = cc
  item-alike kinds.Anisou h = refl
  item-alike kinds.Cryst1 h = cc
  item-alike (kinds.Scale row) h = cc
  item-alike (kinds.Origx row) h = cc
  item-alike (kinds.Mtrix row) h = cc
  item-alike kinds.Model h = refl
  item-alike kinds.Master h = refl
  item-alike kinds.Dbref h = refl
  item-alike kinds.Dbref1 h = refl
  item-alike kinds.Dbref2 h = refl
  item-alike kinds.Seqres h = refl
  item-alike kinds.Seqadv h = refl
  item-alike kinds.Modres h = refl
  item-alike kinds.Ssbond h = rw (tail-alike line on (has_tail line) h) refl
  item-alike kinds.Endmdl h = refl
  item-alike kinds.Ter h = refl
  item-alike kinds.End h = refl

  entry_faults : (e : Entry) → unmarked_in line e ≡ true → faults_by own e ≡ faults_by other e
  entry_faults (u at) h = refl
  entry_faults (i at) h = refl
  entry_faults (r at default) h = rw (said-idle (part_of line at) h on) refl
  entry_faults (t at) h = refl
  entry_faults (c at) h = refl
  entry_faults (c? at) h = refl
  entry_faults (a at) h = refl
  entry_faults (u-rest start) h = refl
  entry_faults (x at) h = refl
  entry_faults (t_within at) h = refl
  entry_faults (t-rest start) h = refl
  entry_faults (t-end start) h = refl
  entry_faults (charge at) h = refl
  entry_faults (known at) h = refl
  entry_faults (given column) h = refl
  entry_faults (unwritten column) h = refl
  entry_faults (triples start) h = refl

  table-faults : (es : List Entry) → unmarked line es ≡ true → table_faults own es ≡ table_faults other es
  table-faults [] h = refl
  table-faults (e ∷ es) h =
      rw (entry_faults e (and_left (unmarked_in line e) (unmarked line es) h), table-faults es (and_right (unmarked_in line e) (unmarked line es) h)) refl

  pub exponents-idle : idle input ≡ true → lexed (with_exponents on input) ≡ lexed (with_exponents false input)
  unfolding lexed faults_of
  exponents-idle h =
      let table = fields_by (refusals.kind input) (refusals.given input) in
      let items = item-alike (refusals.kind input) (table-alike line on table h) in
      let faults = table-faults table h in
      rw (items, faults) refl
