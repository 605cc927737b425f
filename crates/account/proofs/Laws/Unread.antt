-- What an entry shows of a line where its field wasn't read.
--     Each                 all faults of a list
--     Shows                its default, in the fault's columns, called what the table of names says
--     AllShow, table-put   so it is for every entry that agrees with that table
-- Assumes nothing.
use Prim.Native.Nat.{ℕ, ◌+◌, ◌-◌}
use mathlib.Core.Path.{◌≡◌, refl, ap, ◌∙◌}
use mathlib.Core.Bool.{Bool, true, false, cond, ◌&&◌}
use mathlib.Core.List.{List, [], ◌∷◌}
use borrow.Author.Tests.{eq-eqb}
use lib.Dec.{T, ltb, leb→le}
use lib.Ieee.{Float}
use lib.Ieee.Fits.{and_l, and_r}
use lib.IntN.{pos}
use lib.ListN.{length, get_or, replicate}
use Rattle.std.specs.Prelude.{Option, Some, None, is_some, unwrap_or}
use Rattle.field.specs.Charge.{is_sign, charged, charge_of, charge_at, charge_faults, charge_faults_of}
use Rattle.field.specs.Number.{zero_real, short_at, wrong_at, rest_columns, number_faults, unsigned_at, signed_at, real_at, places_at, factor_at, unsigned_from, unsigned_from_faults}
use Rattle.field.specs.Table.{Entry, faults_by}
use Rattle.field.specs.Table.Entry.{u, i, r, t, c, c?, a, u-rest, x, t_within, t-rest, t-end, charge, known, given, unwritten, triples}
use Rattle.field.specs.Text.{text_at, character_at, optional_at, text_faults, character_faults, unreached}
use Rattle.field.proofs.Laws.Fields.{part-short, unsigned-none, signed-none, real-none, factor-none}
use Rattle.kind.specs.Kind.{same}
use Rattle.kind.specs.declared.Kind.{Kind}
use Rattle.lexitem.specs.Shown.{shown_by, keep}
use Rattle.line.specs.Columns.{part_of, rest_of}
use Rattle.line.specs.Given.{Given}
use Rattle.line.specs.declared.columns.Columns.{Columns}
use Rattle.line.specs.declared.fault.Fault.{Fault}
use Rattle.line.specs.declared.fault.FaultKind.TheVariants.{NoDigit, NoSign}
use Rattle.line.specs.declared.fault.Sort.{Sort}
use Rattle.line.specs.declared.fault.Sort.TheVariants.{Unsigned as USort, Signed as ISort, Real as RSort}
use Rattle.names.specs.Names.{default_text}
use Rattle.names.proofs.Laws.Table.{same_eq}
use Rattle.number.specs.Trim.{leading, kept, trimmed, end_trimmed, span_of}
use Rattle.number.specs.Whole.{digit, unsigned_of, signed_of}
use Rattle.real.specs.Real.{real, ten_thousandths_of}
use Rattle.real.specs.declared.Real.{Real}
use Rattle.real.specs.Wide.{real_with}
use Rattle.row.specs.Rows.{◌is◌}
use Rattle.row.specs.declared.Row.{Row}
use Rattle.row.specs.declared.Value.{Value}
use Rattle.row.specs.declared.Value.TheVariants as value
use Rattle.account.specs.Rows.{is_of, called}
use Rattle.account.proofs.Laws.Agree.{default, agrees, all_agree}
use Rattle.account.proofs.Laws.Known.{known-none}

abbrev pub Each : (Fault → Type 0) → List Fault → Type 0
Each P [] = Unit
Each P (f ∷ fs) = P f × Each P fs

-- what the field's entry shows
pub record Shows (k : Kind) (g : Given) (e : Entry) (f : Fault) : Type 0 where
  pub column : ℕ
  pub holds : Value
  pub its : T (is_of column f.place)
  pub so : called holds ≡ default_text k f.place
  pub shows : shown_by g e ≡ column is holds ∷ []
  pub some : (rest : List Row) → keep holds (column is holds) rest ≡ column is holds ∷ rest

-- ---- values
not_some : {A : Type 0} (v : Option A) (d : A) → is_some v ≡ false → unwrap_or v d ≡ d
not_some (Some held) d e = cc
not_some None d e = refl

module _ (P : Fault → Type 0) (l : List ℕ) (at : Columns) where
  each_number : (sort : Sort) (ok : Bool) → (ltb (length l) at.end ≡ true → P (short_at at)) → (ok ≡ false → P (wrong_at sort at))
      → Each P (number_faults l at sort ok)
  unfolding number_faults
  each_number sort ok h w = go (ltb (length l) at.end) refl ok refl
    where
      go : (p : Bool) → ltb (length l) at.end ≡ p → (q : Bool) → ok ≡ q → Each P (cond p (short_at at ∷ []) (cond q [] (wrong_at sort at ∷ [])))
      go true e q d = (h e, tt)
      go false e true d = tt
      go false e false d = (w d, tt)

-- ---- an entry
module _ (k : Kind) (g : Given) where
  abbrev l : List ℕ
  l = g.line

  abbrev on : Bool
  on = g.options.exponents

  -- all entries of a table
  abbrev pub AllShow : List Entry → Type 0
  AllShow [] = Unit
  AllShow (e ∷ es) = Each (Shows k g e) (faults_by g e) × AllShow es

  -- a field that shows its default
  module _ (e : Entry) (column : ℕ) (f : Fault) where
    put : (v : Value) → T (is_of column f.place) → ((rest : List Row) → keep v (column is v) rest ≡ column is v ∷ rest)
        → called v ≡ default_text k f.place → shown_by g e ≡ column is v ∷ [] → Shows k g e f
    put v its some so shows = record { column = column; holds = v; its = its; so = so; shows = shows; some = some }

  own : (column : ℕ) → T (is_of column column)
  own column = rw (eq-eqb column column refl) tt

  unsigned-put : (at : Columns) → T (agrees k (u at)) → Each (Shows k g (u at)) (faults_by g (u at))
  unfolding unsigned_at
  unsigned-put at h =
      let so = same_eq (called (value.Unsigned 0)) (default_text k at.start) h in
      each_number (Shows k g (u at)) l at USort (is_some (unsigned_of (part_of l at)))
      (λ e. put (u at) at.start (short_at at) (value.Unsigned 0) (own at.start) (λ rest. refl) so (rw (part-short l at e, unsigned-none) refl))
      (λ e. put (u at) at.start (wrong_at USort at) (value.Unsigned 0) (own at.start) (λ rest. refl) so (rw (not_some (unsigned_of (part_of l at)) 0 e) refl))

  signed-put : (at : Columns) → T (agrees k (i at)) → Each (Shows k g (i at)) (faults_by g (i at))
  unfolding signed_at
  signed-put at h =
      let so = same_eq (called (value.Signed (pos 0))) (default_text k at.start) h in
      each_number (Shows k g (i at)) l at ISort (is_some (signed_of (part_of l at)))
      (λ e. put (i at) at.start (short_at at) (value.Signed (pos 0)) (own at.start) (λ rest. refl) so (rw (part-short l at e, signed-none) refl))
      (λ e. put (i at) at.start (wrong_at ISort at) (value.Signed (pos 0)) (own at.start) (λ rest. refl) so (rw (not_some (signed_of (part_of l at)) (pos 0) e) refl))

  -- with as many places as it has, which don't matter here
  real-put : (at : Columns) (y : Float) → T (agrees k (r at y)) → Each (Shows k g (r at y)) (faults_by g (r at y))
  unfolding real_at
  real-put at y h =
      let so = same_eq (called (value.Real y 0)) (default_text k at.start) h in
      let shown_of : Real → List Row = λ v. at.start is value.Real v.value (places_at on l at) ∷ [] in
      each_number (Shows k g (r at y)) l at RSort (is_some (real_with on (part_of l at)))
      (λ e. put (r at y) at.start (short_at at) (value.Real y (places_at on l at)) (own at.start) (λ rest. refl) so (ap shown_of (ap (λ (t : List ℕ). unwrap_or (real_with on t) (real y 0)) (part-short l at e) ∙ ap (λ (o : Option Real). unwrap_or o (real y 0)) (real-none on))))
      (λ e. put (r at y) at.start (wrong_at RSort at) (value.Real y (places_at on l at)) (own at.start) (λ rest. refl) so (ap shown_of (not_some (real_with on (part_of l at)) (real y 0) e)))

  factor-put : (at : Columns) → T (agrees k (a at)) → Each (Shows k g (a at)) (faults_by g (a at))
  unfolding factor_at
  factor-put at h =
      let so = same_eq (called (value.Factor zero_real)) (default_text k at.start) h in
      each_number (Shows k g (a at)) l at ISort (is_some (ten_thousandths_of (part_of l at)))
      (λ e. put (a at) at.start (short_at at) (value.Factor zero_real) (own at.start) (λ rest. refl) so (rw (part-short l at e, factor-none) refl))
      (λ e. put (a at) at.start (wrong_at ISort at) (value.Factor zero_real) (own at.start) (λ rest. refl) so (rw (not_some (ten_thousandths_of (part_of l at)) zero_real e) refl))

  text-put : (at : Columns) → T (agrees k (t at)) → Each (Shows k g (t at)) (faults_by g (t at))
  unfolding text_faults text_at span_of trimmed end_trimmed leading kept
  text-put at h = go (ltb (length l) at.end) refl (same_eq (called (default (t at))) (default_text k at.start) h)
    where
      go : (p : Bool) → ltb (length l) at.end ≡ p → called (default (t at)) ≡ default_text k at.start
          → Each (Shows k g (t at)) (cond p (short_at at ∷ []) [])
      go true e so = (put (t at) at.start (short_at at) (default (t at)) (own at.start) (λ rest. refl) so (rw (part-short l at e) refl), tt)
      go false e so = tt

  character_put : (at : Columns) → T (agrees k (c at)) → Each (Shows k g (c at)) (faults_by g (c at))
  unfolding character_faults character_at
  character_put at h = go (ltb at.start (length l)) refl (same_eq (called (default (c at))) (default_text k at.start) h)
    where
      go : (p : Bool) → ltb at.start (length l) ≡ p → called (default (c at)) ≡ default_text k at.start
          → Each (Shows k g (c at)) (cond p [] (unreached at.start ∷ []))
      go true e so = tt
      go false e so = (put (c at) at.start (unreached at.start) (default (c at)) (own at.start) (λ rest. refl) so (rw e refl), tt)

  optional_put : (at : Columns) → T (agrees k (c? at)) → Each (Shows k g (c? at)) (faults_by g (c? at))
  unfolding character_faults optional_at
  optional_put at h = go (ltb at.start (length l)) refl (same_eq (called (default (c? at))) (default_text k at.start) h)
    where
      go : (p : Bool) → ltb at.start (length l) ≡ p → called (default (c? at)) ≡ default_text k at.start
          → Each (Shows k g (c? at)) (cond p [] (unreached at.start ∷ []))
      go true e so = tt
      go false e so = (put (c? at) at.start (unreached at.start) (default (c? at)) (own at.start) (λ rest. refl) so (rw e refl), tt)

  rest_put : (start : ℕ) → T (agrees k (u-rest start)) → Each (Shows k g (u-rest start)) (faults_by g (u-rest start))
  unfolding unsigned_from_faults unsigned_from
  rest_put start h = go (is_some (unsigned_of (rest_of l start))) refl (same_eq (called (value.Unsigned 0)) (default_text k start) h)
    where
      go : (p : Bool) → is_some (unsigned_of (rest_of l start)) ≡ p → called (value.Unsigned 0) ≡ default_text k start
          → Each (Shows k g (u-rest start)) (cond p [] (wrong_at USort (rest_columns l start) ∷ []))
      go true e so = tt
      go false e so = (put (u-rest start) start (wrong_at USort (rest_columns l start)) (value.Unsigned 0) (own start) (λ rest. refl) so (rw (not_some (unsigned_of (rest_of l start)) 0 e) refl), tt)

  charge-put : (at : Columns) → T (agrees k (charge at)) → Each (Shows k g (charge at)) (faults_by g (charge at))
  unfolding charge_faults charge_faults_of charge_at charge_of
  charge-put at h =
      let zero = called (value.Signed (pos 0)) in
      let one = same zero (default_text k at.start) in
      let two = same zero (default_text k (at.start + 1)) in
      let both = and_l (one && two) (is_of at.start (at.start + 1)) h in
      go (charged (part_of l at)) refl (digit (get_or (part_of l at) 0 0)) refl (is_sign (get_or (part_of l at) 1 0)) refl
      (same_eq zero (default_text k at.start) (and_l one two both)) (same_eq zero (default_text k (at.start + 1)) (and_r one two both))
      (and_r (one && two) (is_of at.start (at.start + 1)) h)
    where
      go : (p : Bool) → charged (part_of l at) ≡ p → (q : Bool) → digit (get_or (part_of l at) 0 0) ≡ q
          → (s : Bool) → is_sign (get_or (part_of l at) 1 0) ≡ s
          → called (value.Signed (pos 0)) ≡ default_text k at.start → called (value.Signed (pos 0)) ≡ default_text k (at.start + 1)
          → T (is_of at.start (at.start + 1))
          → Each (Shows k g (charge at))
          (cond p (cond q (cond s [] (record { kind = NoSign; place = at.start + 1; length = 1 } ∷ [])) (record { kind = NoDigit; place = at.start; length = 1 } ∷ [])) [])
      go true e true d true n first second its = tt
      go true e true d false n first second its =
          (put (charge at) at.start (record { kind = NoSign; place = at.start + 1; length = 1 }) (value.Signed (pos 0)) its (λ rest. refl) second (rw (e, d, n) refl), tt)
      go true e false d s n first second its =
          (put (charge at) at.start (record { kind = NoDigit; place = at.start; length = 1 }) (value.Signed (pos 0)) (own at.start) (λ rest. refl) first (rw (e, d) refl), tt)
      go false e q d s n first second its = tt

  known-put : g.remarks ≡ replicate 1000 1 → (at : Columns) → T (agrees k (known at)) → Each (Shows k g (known at)) (faults_by g (known at))
  known-put all at h = rw (all, known-none l at (leb→le (at.end - at.start) 3 h)) tt

  module _ (all : g.remarks ≡ replicate 1000 1) where
    entry_put : (e : Entry) → T (agrees k e) → Each (Shows k g e) (faults_by g e)
    entry_put (u at) h = unsigned-put at h
    entry_put (i at) h = signed-put at h
    entry_put (r at y) h = real-put at y h
    entry_put (t at) h = text-put at h
    entry_put (c at) h = character_put at h
    entry_put (c? at) h = optional_put at h
    entry_put (a at) h = factor-put at h
    entry_put (u-rest start) h = rest_put start h
    entry_put (x at) h = tt
    entry_put (t_within at) h = tt
    entry_put (t-rest start) h = tt
    entry_put (t-end start) h = tt
    entry_put (charge at) h = charge-put at h
    entry_put (known at) h = known-put all at h
    entry_put (given column) h = tt
    entry_put (unwritten column) h = tt
    entry_put (triples start) h = tt

    pub table-put : (es : List Entry) → T (all_agree k es) → AllShow es
    table-put [] h = tt
    table-put (e ∷ es) h = (entry_put e (and_l (agrees k e) (all_agree k es) h), table-put es (and_r (agrees k e) (all_agree k es) h))
