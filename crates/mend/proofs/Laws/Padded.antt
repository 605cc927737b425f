-- What padding does to the fields that the line didn't reach. "Padding turns a real's fault 1 into fault 2, never into silence": a blank field is
-- no number, so U and I get fault 2 as well. Texts and characters lose their fault 1, for blanks are what they may hold, and a chain that wasn't
-- reached is then a blank. No value changes.
--     padded-whole    of each field a padded line had all columns or none
--     Turned          what becomes of a field
--     padded-turned   so in all of ATOM's table
-- Assumes nothing.
use Prim.Native.Nat.{ℕ, zero, suc, ◌+◌, ◌-◌, ◌<◌, ◌≤◌}
use mathlib.Core.Path.{◌≡◌, refl, sym, ap, ◌∙◌}
use mathlib.Core.Bool.{Bool, true, false, cond, not, ◌&&◌, ◌||◌}
use mathlib.Core.List.{List, [], ◌∷◌}
use native.Mathlib.Omega.{arith}
use borrow.Author.Tests.{ltb-true, ltb-false, lt-ltb, le-ltb, leb-true}
use lib.ListN.{length, take, drop, get_or, replicate, length-replicate, length-take, length-drop, get_or-replicate}
use lib.Seq.{ext_get_or, get_or-take, get_or-drop}
use lib.Dec.{ltb, leb, eqb}
use lib.Ieee.{Float}
use Rattle.std.specs.Prelude.{Option, unwrap_or}
use Rattle.number.specs.Trim.{white, leading, kept, end_trimmed, trimmed, span_of}
use Rattle.number.specs.Whole.{unsigned_of, signed_of}
use Rattle.number.specs.Decimal.{decimal_of}
use Rattle.number.proofs.Laws.Choice.{and_left, and_right, and_both, clash}
use Rattle.number.specs.Wide.{wide_of, marked_of}
use Rattle.real.specs.Real.{real, real_of}
use Rattle.real.specs.declared.Real.{Real}
use Rattle.real.specs.Wide.{real_with}
use Rattle.atom.specs.Atom.{atom_table}
use Rattle.field.specs.Charge.{charge_at, charge_faults, charged, both_blank}
use Rattle.field.specs.Number.{zero_real, number_faults, short_at, wrong_at, unsigned_at, signed_at, real_at, places_at}
use Rattle.field.specs.Table.{Entry, faults_by}
use Rattle.field.specs.Table.Entry.{u, i, r, t, c, c?, a, u-rest, x, t_within, t-rest, t-end, charge, known, given, unwritten, triples}
use Rattle.field.specs.Text.{text_at, text_faults, character_at, optional_at, character_faults, unreached}
use Rattle.field.proofs.Laws.Fields.{part-short, unsigned-none, signed-none, real-none}
use Rattle.line.specs.Columns.{part_of}
use Rattle.line.specs.declared.columns.Columns.{Columns}
use Rattle.line.specs.declared.fault.Fault.{Fault}
use Rattle.line.specs.declared.fault.Sort.TheVariants.{Unsigned as USort, Signed as ISort, Real as RSort}
use Rattle.line.specs.declared.options.Options.{Options}
use Rattle.line.specs.declared.text.Character.TheVariants.{At, Unreached}
use Rattle.margins.proofs.Laws.Entries.{on, Same}
use Rattle.mend.specs.Mend.{is_atom_line, cut, columns_of, cut_in, padding, mended}
use Rattle.mend.proofs.Laws.Mended.{padding-full, mended-length, mended-behind}

-- ---- blanks say what an empty part says
trimmed-blanks : (n : ℕ) → trimmed (replicate n 32) ≡ trimmed []
unfolding trimmed leading end_trimmed kept white
trimmed-blanks zero = refl
trimmed-blanks (suc n) = trimmed-blanks n

unsigned-blanks : (n : ℕ) → unsigned_of (replicate n 32) ≡ unsigned_of []
unfolding unsigned_of
unsigned-blanks n = rw (trimmed-blanks n) refl

signed-blanks : (n : ℕ) → signed_of (replicate n 32) ≡ signed_of []
unfolding signed_of
signed-blanks n = rw (trimmed-blanks n) refl

real-blanks : (taken : Bool) (n : ℕ) → real_with taken (replicate n 32) ≡ real_with taken []
unfolding real_with real_of decimal_of wide_of marked_of
real-blanks false n = rw (trimmed-blanks n) refl
real-blanks true n = rw (trimmed-blanks n) refl

none : trimmed [] ≡ []
unfolding trimmed end_trimmed leading kept
none = refl

span_blanks : (n : ℕ) → span_of (replicate n 32) ≡ span_of []
unfolding span_of
span_blanks n = rw (trimmed-blanks n, none) refl

-- blanks are no charge
charged-blanks : (n : ℕ) → charged (replicate n 32) ≡ false
unfolding charged both_blank
charged-blanks zero = refl
charged-blanks (suc zero) = refl
charged-blanks (suc (suc n)) = go (eqb (suc (suc (length (replicate n 32)))) 2)
  where
    go : (b : Bool) → b && false ≡ false
    go true = refl
    go false = refl

-- ---- a field that the line doesn't reach, of a line that is padded
module _ (l : List ℕ) (p : 0 < padding l) where
  part-blank : (at : Columns) → length l ≤ at.start → at.end ≤ 80 → part_of (mended l) at ≡ replicate (at.end - at.start) 32
  unfolding part_of
  part-blank at h k =
      let n = at.end - at.start in
      let f = padding-full l p in
      let m = mended-length l in
      let s : length (take n (drop at.start (mended l))) ≡ n = simp (length-take, length-drop) (omega arith) in
      rw (le-ltb (length (mended l)) at.end (omega arith))
      (ext_get_or 0 (take n (drop at.start (mended l))) (replicate n 32) (s ∙ sym (length-replicate n 32))
      (λ j q.
      let w : j < n = omega arith in
      get_or-take n (drop at.start (mended l)) j 0 w
      ∙ get_or-drop at.start (mended l) j 0
      ∙ mended-behind l (at.start + j) (omega arith) (omega arith)
      ∙ sym (get_or-replicate n j 32 0 w)))

  -- a padded line was cut in no field
  pub padded-whole : cut_in atom_table (length l) ≡ false
  unfolding padding
  padded-whole = go (is_atom_line l) (cut_in atom_table (length l)) refl p
    where
      go : (b y : Bool) → cut_in atom_table (length l) ≡ y → 0 < cond (b && not y) (80 - length l) 0 → y ≡ false
      go b false e h = refl
      go true true e h = absurd (omega arith)
      go false true e h = absurd (omega arith)

-- columns are some, and within the 80
abbrev narrow : Columns → Bool
narrow at = ltb at.start at.end && leb at.end 80

-- a line that doesn't end inside columns, and doesn't reach their end, ends before them
before : (at : Columns) (n : ℕ) → cut at n ≡ false → n < at.end → n ≤ at.start
before at n e h = go (ltb at.start n) refl
  where
    go : (b : Bool) → ltb at.start n ≡ b → n ≤ at.start
    go true q = absurd (clash (and_both q (lt-ltb n at.end h)) e)
    go false q = ltb-false at.start n q

module _ (options : Options) (remarks l : List ℕ) where
  abbrev Was : Entry → List Fault → Type 0
  Was e fs = faults_by (on options remarks l) e ≡ fs

  abbrev Is : Entry → List Fault → Type 0
  Is e fs = faults_by (on options remarks (mended l)) e ≡ fs

  -- the faults that it had, those that it has, and its value
  abbrev pub Turned : Entry → Type 0
  Turned (r at default) = Was (r at default) (short_at at ∷ []) × Is (r at default) (wrong_at RSort at ∷ []) × Same l (mended l) options.exponents (r at default)
  Turned (u at) = Was (u at) (short_at at ∷ []) × Is (u at) (wrong_at USort at ∷ []) × Same l (mended l) options.exponents (u at)
  Turned (i at) = Was (i at) (short_at at ∷ []) × Is (i at) (wrong_at ISort at ∷ []) × Same l (mended l) options.exponents (i at)
  Turned (t at) = Was (t at) (short_at at ∷ []) × Is (t at) [] × Same l (mended l) options.exponents (t at)
  Turned (c? at) = Was (c? at) (unreached at.start ∷ []) × Is (c? at) [] × Same l (mended l) options.exponents (c? at)
  Turned (c at) =
      Was (c at) (unreached at.start ∷ [])
      × Is (c at) []
      × (character_at l at.start ≡ Unreached)
      × (character_at (mended l) at.start ≡ At at.start)
      × (get_or (mended l) at.start 0 ≡ 32)
  Turned (charge at) = Was (charge at) [] × Is (charge at) [] × Same l (mended l) options.exponents (charge at)
  Turned (a at) = Unit {0}
  Turned (u-rest start) = Unit {0}
  Turned (x at) = Unit {0}
  Turned (t_within at) = Unit {0}
  Turned (t-rest start) = Unit {0}
  Turned (t-end start) = Unit {0}
  Turned (known at) = Unit {0}
  Turned (given column) = Unit {0}
  Turned (unwritten column) = Unit {0}
  Turned (triples start) = Unit {0}

  -- every field that the line didn't reach
  abbrev pub AllTurned : List Entry → Type 0
  AllTurned [] = Unit {0}
  AllTurned (e ∷ es) = (length l < (columns_of e).end → Turned e) × AllTurned es

  module _ (p : 0 < padding l) where
    module _ (at : Columns) (h : length l ≤ at.start) (n : narrow at ≡ true) where
      some : at.start < at.end
      some = ltb-true at.start at.end (and_left (ltb at.start at.end) (leb at.end 80) n)

      within : at.end ≤ 80
      within = leb-true at.end 80 (and_right (ltb at.start at.end) (leb at.end 80) n)

      was : ltb (length l) at.end ≡ true
      was = let s = some in lt-ltb (length l) at.end (omega arith)

      is : ltb (length (mended l)) at.end ≡ false
      is = let w = within in let f = padding-full l p in le-ltb (length (mended l)) at.end (omega (arith, mended-length l))

      had : ltb at.start (length l) ≡ false
      had = le-ltb at.start (length l) h

      has : ltb at.start (length (mended l)) ≡ true
      has = let s = some in let w = within in let f = padding-full l p in lt-ltb at.start (length (mended l)) (omega (arith, mended-length l))

      empty : part_of l at ≡ []
      empty = part-short l at was

      blank : part_of (mended l) at ≡ replicate (at.end - at.start) 32
      blank = part-blank l p at h within

      blank_byte : get_or (mended l) at.start 0 ≡ 32
      blank_byte = let s = some in let w = within in let f = padding-full l p in mended-behind l at.start h (omega arith)

      real-turned : (default : Float) → Turned (r at default)
      unfolding number_faults real_at places_at
      real-turned default =
          let taken = options.exponents in
          let e = real-blanks taken (at.end - at.start) ∙ real-none taken in
          let same : real_with taken (part_of l at) ≡ real_with taken (part_of (mended l) at)
          = rw (empty, blank, e) (real-none taken) in (
            rw was refl,
            rw (is, blank, e) refl,
            (ap (λ (s : Option Real). (unwrap_or s (real default 0)).value) same, ap (λ (s : Option Real). (unwrap_or s (real zero_real 0)).places) same),
          )

      unsigned-turned : Turned (u at)
      unfolding number_faults unsigned_at
      unsigned-turned =
          let e = unsigned-blanks (at.end - at.start) ∙ unsigned-none in
          (rw was refl, rw (is, blank, e) refl, rw (empty, blank, e, unsigned-none) refl)

      signed-turned : Turned (i at)
      unfolding number_faults signed_at
      signed-turned =
          let e = signed-blanks (at.end - at.start) ∙ signed-none in
          (rw was refl, rw (is, blank, e) refl, rw (empty, blank, e, signed-none) refl)

      text-turned : Turned (t at)
      unfolding text_faults text_at
      text-turned = (rw was refl, rw is refl, rw (empty, blank, span_blanks (at.end - at.start)) refl)

      optional_turned : Turned (c? at)
      unfolding character_faults optional_at
      optional_turned = (rw had refl, rw has refl, rw (had, has, blank_byte) refl)

      character_turned : Turned (c at)
      unfolding character_faults character_at
      character_turned = (rw had refl, rw has refl, rw had refl, rw has refl, blank_byte)

      charge-turned : Turned (charge at)
      unfolding charge_faults charge_at
      charge-turned =
          let e = charged-blanks 0 in
          let f = charged-blanks (at.end - at.start) in
          (rw (empty, e) refl, rw (blank, f) refl, rw (empty, blank, e, f) refl)

    turned : (e : Entry) → narrow (columns_of e) ≡ true → length l ≤ (columns_of e).start → Turned e
    turned (r at default) n h = real-turned at h n default
    turned (u at) n h = unsigned-turned at h n
    turned (i at) n h = signed-turned at h n
    turned (t at) n h = text-turned at h n
    turned (c? at) n h = optional_turned at h n
    turned (c at) n h = character_turned at h n
    turned (charge at) n h = charge-turned at h n
    turned (a at) n h = tt
    turned (u-rest start) n h = tt
    turned (x at) n h = tt
    turned (t_within at) n h = tt
    turned (t-rest start) n h = tt
    turned (t-end start) n h = tt
    turned (known at) n h = tt
    turned (given column) n h = tt
    turned (unwritten column) n h = tt
    turned (triples start) n h = tt

    abbrev all_narrow : List Entry → Bool
    all_narrow [] = true
    all_narrow (e ∷ es) = narrow (columns_of e) && all_narrow es

    neither : (x y : Bool) → x || y ≡ false → (x ≡ false) × (y ≡ false)
    neither true y e = absurd (clash {b = true} refl e)
    neither false y e = (refl, e)

    all-turned : (es : List Entry) → all_narrow es ≡ true → cut_in es (length l) ≡ false → AllTurned es
    all-turned [] n h = tt
    all-turned (e ∷ es) n h =
        let d = neither (cut (columns_of e) (length l)) (cut_in es (length l)) h in (
          λ k. turned e (and_left (narrow (columns_of e)) (all_narrow es) n) (before (columns_of e) (length l) d.0 k),
          all-turned es (and_right (narrow (columns_of e)) (all_narrow es) n) d.1,
        )

    pub padded-turned : AllTurned atom_table
    padded-turned = all-turned atom_table refl (padded-whole l p)
