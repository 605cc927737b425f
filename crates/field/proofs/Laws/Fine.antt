-- Laws of fields that are fine and of those that aren't.
--     number-one, text-one, character_one     one that isn't has one fault, the defined one
--     said-fine, .., real-said                a number is fine where its text says one, and is what that says
--     rest-said, ..                           the same of U to the line's end
--     said-none, .., text-none                one that isn't is its default
--     places-few, unread-none                 a real has nine places at most, and none where it isn't fine
--     charge-fine                             a charge is fine if it is a digit and a sign
--     charge-one, charge-two                  a charge that isn't has one fault, and both its columns are there
--     all-fine, fine-append                   a table of fine fields notes nothing, nor do two
-- Assumes nothing.
use Prim.Native.Nat.{ℕ, ◌+◌, ◌≤◌}
use mathlib.Core.Path.{◌≡◌, refl, ap, ◌∙◌}
use mathlib.Core.Bool.{Bool, true, false, cond, not, ◌&&◌}
use mathlib.Core.List.{List, [], ◌∷◌, ◌++◌}
use native.Mathlib.Omega.{arith}
use borrow.Author.Tests.{eqb-true}
use Rattle.std.specs.Prelude.{Option, Some, None, is_some, unwrap_or}
use lib.ListN.{length, get_or}
use lib.Dec.{ltb, eqb}
use lib.Ieee.{Float}
use lib.IntN.{ℤ, pos}
use Rattle.number.specs.Whole.{digit, unsigned_of, signed_of}
use Rattle.number.specs.Trim.{span_of, trimmed, end_trimmed, leading, kept}
use Rattle.number.proofs.Laws.Choice.{and_left, and_right, and_assoc}
use Rattle.real.specs.Real.{real, ten_thousandths_of}
use Rattle.real.specs.Wide.{real_with}
use Rattle.real.specs.declared.Real.{Real}
use Rattle.real.proofs.Laws.WideReal.{with-few}
use Rattle.line.specs.Columns.{part_of, rest_of}
use Rattle.line.specs.Given.{Given}
use Rattle.line.specs.declared.columns.Columns.{Columns}
use Rattle.line.specs.declared.fault.Fault.{Fault}
use Rattle.line.specs.declared.fault.Faults.{Faults}
use Rattle.line.specs.declared.fault.Sort.{Sort}
use Rattle.line.specs.declared.fault.Sort.TheVariants.{Unsigned as USort, Signed as ISort, Real as RSort}
use Rattle.line.specs.declared.fault.FaultKind.TheVariants.{NoDigit, NoSign}
use Rattle.line.specs.declared.text.Character.TheVariants.{At, Unreached, Absent}
use Rattle.field.specs.Found.{is_fine, fine}
use Rattle.field.specs.Number.{zero_real, short_at, wrong_at, number_fault, number_faults, unsigned_at, unsigned_faults, fine_unsigned, signed_at, signed_faults, fine_signed, real_at, places_at, read_at, real_faults, factor_at, factor_faults, rest_columns, unsigned_from, unsigned_from_faults}
use Rattle.field.specs.Text.{text_at, text_faults, character_at, optional_at, character_faults, unreached}
use Rattle.field.specs.Charge.{both_blank, is_sign, charged, charge_fault, charge_faults_of, charge_faults, charge_of, charge_at}
use Rattle.field.specs.Table.{Entry, faults_by, table_noted, all_fine}
use Rattle.field.proofs.Laws.Fields.{part-short, unsigned-none, signed-none, real-none, factor-none}
use Rattle.field.proofs.Laws.Found.{fine-none}

pub number-one : (l : List ℕ) (at : Columns) (sort : Sort) (ok : Bool)
    → is_fine (number_faults l at sort ok) ≡ false → number_faults l at sort ok ≡ number_fault l at sort ∷ []
unfolding number_faults
number-one l at sort ok e = go (ltb (length l) at.end) ok e
  where
    go : (b k : Bool) → is_fine (cond b (short_at at ∷ []) (cond k [] (wrong_at sort at ∷ []))) ≡ false
        → cond b (short_at at ∷ []) (cond k [] (wrong_at sort at ∷ [])) ≡ cond b (short_at at) (wrong_at sort at) ∷ []
    go true k e = refl
    go false true e = cc
    go false false e = refl

-- ---- number fields: columns that the line doesn't reach say none
module _ {A : Type 0} (l : List ℕ) (at : Columns) (sort : Sort) {said : Option A} (none : ltb (length l) at.end ≡ true → said ≡ None) (d : A) where
  -- the field is what its text says
  pub said-fine : said ≡ fine (number_faults l at sort (is_some said)) (unwrap_or said d)
  unfolding number_faults
  said-fine = go (ltb (length l) at.end) said none
    where
      go : (b : Bool) (s : Option A) → (b ≡ true → s ≡ None)
          → s ≡ fine (cond b (short_at at ∷ []) (cond (is_some s) [] (wrong_at sort at ∷ []))) (unwrap_or s d)
      go true s h = h refl
      go false (Some x) h = refl
      go false None h = refl

  -- and its default where it isn't fine
  pub said-none : is_fine (number_faults l at sort (is_some said)) ≡ false → said ≡ None
  unfolding number_faults
  said-none e = go (ltb (length l) at.end) said none e
    where
      go : (b : Bool) (s : Option A) → (b ≡ true → s ≡ None)
          → is_fine (cond b (short_at at ∷ []) (cond (is_some s) [] (wrong_at sort at ∷ []))) ≡ false → s ≡ None
      go true s h e = h refl
      go false (Some x) h e = cc
      go false None h e = refl

  -- and fine where its text says one
  pub said-is : is_fine (number_faults l at sort (is_some said)) ≡ is_some said
  unfolding number_faults
  said-is = go (ltb (length l) at.end) said none
    where
      go : (b : Bool) (s : Option A) → (b ≡ true → s ≡ None)
          → is_fine (cond b (short_at at ∷ []) (cond (is_some s) [] (wrong_at sort at ∷ []))) ≡ is_some s
      go true s h = rw (h refl) refl
      go false (Some x) h = refl
      go false None h = refl

module _ (l : List ℕ) (at : Columns) where
  unsigned-unreached : ltb (length l) at.end ≡ true → unsigned_of (part_of l at) ≡ None
  unsigned-unreached e = rw (part-short l at e) unsigned-none

  signed-unreached : ltb (length l) at.end ≡ true → signed_of (part_of l at) ≡ None
  signed-unreached e = rw (part-short l at e) signed-none

  real-unreached : (on : Bool) → ltb (length l) at.end ≡ true → real_with on (part_of l at) ≡ None
  real-unreached on e = rw (part-short l at e) (real-none on)

  factor-unreached : ltb (length l) at.end ≡ true → ten_thousandths_of (part_of l at) ≡ None
  factor-unreached e = rw (part-short l at e) factor-none

  pub unsigned-said : unsigned_of (part_of l at) ≡ fine_unsigned l at
  unfolding unsigned_at
  unsigned-said = said-fine l at USort unsigned-unreached 0

  pub signed-said : signed_of (part_of l at) ≡ fine_signed l at
  unfolding signed_at
  signed-said = said-fine l at ISort signed-unreached (pos 0)

  pub factor-said : ten_thousandths_of (part_of l at) ≡ fine (factor_faults l at) (factor_at l at)
  unfolding factor_at
  factor-said = said-fine l at ISort factor-unreached zero_real

  pub unsigned-default : is_fine (unsigned_faults l at) ≡ false → unsigned_at l at ≡ 0
  unfolding unsigned_at
  unsigned-default e = rw (said-none l at USort unsigned-unreached 0 e) refl

  pub signed-default : is_fine (signed_faults l at) ≡ false → signed_at l at ≡ pos 0
  unfolding signed_at
  signed-default e = rw (said-none l at ISort signed-unreached (pos 0) e) refl

  pub factor-default : is_fine (factor_faults l at) ≡ false → factor_at l at ≡ zero_real
  unfolding factor_at
  factor-default e = rw (said-none l at ISort factor-unreached zero_real e) refl

module _ (on : Bool) (l : List ℕ) (at : Columns) where
  none_at : ltb (length l) at.end ≡ true → real_with on (part_of l at) ≡ None
  none_at = real-unreached l at on

  -- whatever the default is
  pub real-said : (d : Float) → real_with on (part_of l at) ≡ fine (real_faults on l at) (read_at on l at d)
  unfolding real_at places_at
  real-said d = said-fine l at RSort none_at (real d 0) ∙ ap (fine (real_faults on l at)) (go (real_with on (part_of l at)))
    where
      go : (s : Option Real) → unwrap_or s (real d 0) ≡ real (unwrap_or s (real d 0)).value (unwrap_or s (real zero_real 0)).places
      go (Some r) = refl
      go None = refl

  pub real-default : is_fine (real_faults on l at) ≡ false → (d : Float) → read_at on l at d ≡ real d 0
  unfolding real_at places_at
  real-default e d =
      ap (λ (s : Option Real). real (unwrap_or s (real d 0)).value (unwrap_or s (real zero_real 0)).places) (said-none l at RSort none_at (real d 0) e)

  -- it has nine places at most, and none where it isn't fine
  pub places-few : places_at on l at ≤ 9
  unfolding places_at
  places-few = go (real_with on (part_of l at)) refl
    where
      go : (s : Option Real) → real_with on (part_of l at) ≡ s → (unwrap_or s (real zero_real 0)).places ≤ 9
      go (Some r) e = with-few on (part_of l at) e
      go None e = omega arith

  pub unread-none : is_fine (real_faults on l at) ≡ false → places_at on l at ≡ 0
  unread-none e = ap (λ (r : Real). r.places) (real-default e zero_real)

  -- a real is fine where the line reaches and its text says one
  pub fine-says : is_fine (real_faults on l at) ≡ is_some (real_with on (part_of l at))
  fine-says = said-is l at RSort none_at (real zero_real 0)

-- ---- U to the line's end
module _ (l : List ℕ) (k : ℕ) where
  pub rest-said : unsigned_of (rest_of l k) ≡ fine (unsigned_from_faults l k) (unsigned_from l k)
  unfolding unsigned_from unsigned_from_faults
  rest-said = go (unsigned_of (rest_of l k))
    where
      go : (s : Option ℕ) → s ≡ fine (cond (is_some s) [] (wrong_at USort (rest_columns l k) ∷ [])) (unwrap_or s 0)
      go (Some n) = refl
      go None = refl

  pub rest_one : is_fine (unsigned_from_faults l k) ≡ false → unsigned_from_faults l k ≡ wrong_at USort (rest_columns l k) ∷ []
  unfolding unsigned_from_faults
  rest_one e = go (is_some (unsigned_of (rest_of l k))) e
    where
      go : (b : Bool) → is_fine (cond b [] (wrong_at USort (rest_columns l k) ∷ [])) ≡ false
          → cond b [] (wrong_at USort (rest_columns l k) ∷ []) ≡ wrong_at USort (rest_columns l k) ∷ []
      go true e = cc
      go false e = refl

  pub rest-default : is_fine (unsigned_from_faults l k) ≡ false → unsigned_from l k ≡ 0
  unfolding unsigned_from unsigned_from_faults
  rest-default e = go (unsigned_of (rest_of l k)) e
    where
      go : (s : Option ℕ) → is_fine (cond (is_some s) [] (wrong_at USort (rest_columns l k) ∷ [])) ≡ false → unwrap_or s 0 ≡ 0
      go (Some n) e = cc
      go None e = refl

pub text-one : (l : List ℕ) (at : Columns) → is_fine (text_faults l at) ≡ false → text_faults l at ≡ short_at at ∷ []
unfolding text_faults
text-one l at e = go (ltb (length l) at.end) e
  where
    go : (b : Bool) → is_fine (cond b (short_at at ∷ []) []) ≡ false → cond b (short_at at ∷ []) [] ≡ short_at at ∷ []
    go true e = refl
    go false e = cc

-- a text that the line doesn't reach is empty
pub text-none : (l : List ℕ) (at : Columns) → is_fine (text_faults l at) ≡ false → text_at l at ≡ record { place = 0; length = 0 }
unfolding text_faults text_at span_of trimmed end_trimmed leading kept
text-none l at e = go (ltb (length l) at.end) refl e
  where
    go : (b : Bool) → ltb (length l) at.end ≡ b → is_fine (cond b (short_at at ∷ []) []) ≡ false → text_at l at ≡ record { place = 0; length = 0 }
    go true s e = rw (part-short l at s) refl
    go false s e = cc

pub character_one : (l : List ℕ) (column : ℕ) → is_fine (character_faults l column) ≡ false → character_faults l column ≡ unreached column ∷ []
unfolding character_faults
character_one l column e = go (ltb column (length l)) e
  where
    go : (b : Bool) → is_fine (cond b [] (unreached column ∷ [])) ≡ false → cond b [] (unreached column ∷ []) ≡ unreached column ∷ []
    go true e = cc
    go false e = refl

pub character-none : (l : List ℕ) (column : ℕ) → is_fine (character_faults l column) ≡ false
    → (character_at l column ≡ Unreached) × (optional_at l column ≡ Absent)
unfolding character_faults character_at optional_at
character-none l column e = go (ltb column (length l)) e
  where
    go : (b : Bool) → is_fine (cond b [] (unreached column ∷ [])) ≡ false
        → (cond b (At column) Unreached ≡ Unreached) × (cond b (cond (eqb (get_or l column 0) 32) Absent (At column)) Absent ≡ Absent)
    go true e = cc
    go false e = (refl, refl)

abbrev no_sign_of : ℕ → Fault
no_sign_of start = record { kind = NoSign; place = start + 1; length = 1 }

abbrev no_digit : ℕ → Fault
no_digit start = record { kind = NoDigit; place = start; length = 1 }

pub charge-fine : (d s start : ℕ) → is_fine (charge_faults_of d s start) ≡ digit d && is_sign s
unfolding charge_faults_of
charge-fine d s start = go (digit d) (is_sign s)
  where
    go : (a b : Bool) → is_fine (cond a (cond b [] (no_sign_of start ∷ [])) (no_digit start ∷ [])) ≡ a && b
    go true true = refl
    go true false = refl
    go false b = refl

pub charge-one : (l : List ℕ) (at : Columns)
    → is_fine (charge_faults l at) ≡ false → charge_faults l at ≡ charge_fault (get_or (part_of l at) 0 0) at.start ∷ []
unfolding charge_faults charge_faults_of
charge-one l at e =
    go (charged (part_of l at)) (digit (get_or (part_of l at) 0 0)) (is_sign (get_or (part_of l at) 1 0)) e
  where
    go : (x a b : Bool) → is_fine (cond x (cond a (cond b [] (no_sign_of at.start ∷ [])) (no_digit at.start ∷ [])) []) ≡ false
        → cond x (cond a (cond b [] (no_sign_of at.start ∷ [])) (no_digit at.start ∷ [])) [] ≡ cond a (no_sign_of at.start) (no_digit at.start) ∷ []
    go true true true e = cc
    go true true false e = refl
    go true false b e = refl
    go false a b e = cc

-- and is 0
pub charge-none : (l : List ℕ) (at : Columns) → is_fine (charge_faults l at) ≡ false → charge_at l at ≡ pos 0
unfolding charge_faults charge_faults_of charge_at charge_of
charge-none l at e = go (charged (part_of l at)) (digit (get_or (part_of l at) 0 0)) (is_sign (get_or (part_of l at) 1 0)) e _
  where
    go : (x a b : Bool) → is_fine (cond x (cond a (cond b [] (no_sign_of at.start ∷ [])) (no_digit at.start ∷ [])) []) ≡ false
        → (z : ℤ) → cond x (cond (a && b) z (pos 0)) (pos 0) ≡ pos 0
    go true true true e z = cc
    go true true false e z = refl
    go true false b e z = refl
    go false a b e z = cc

pub charge-two : (l : List ℕ) (at : Columns) → is_fine (charge_faults l at) ≡ false → length (part_of l at) ≡ 2
unfolding charge_faults charged
charge-two l at e = eqb-true (length (part_of l at)) 2 (go (eqb (length (part_of l at)) 2) (both_blank (get_or (part_of l at) 0 0) (get_or (part_of l at) 1 0)) e)
  where
    go : (a b : Bool)
        → is_fine (cond (a && not b) (charge_faults_of (get_or (part_of l at) 0 0) (get_or (part_of l at) 1 0) at.start) []) ≡ false → a ≡ true
    go true b e = refl
    go false b e = cc

pub all-fine : (g : Given) (es : List Entry) (fs : Faults) → all_fine g es ≡ true → table_noted g es fs ≡ fs
all-fine g [] fs e = refl
all-fine g (h ∷ es) fs e =
    rw (fine-none (faults_by g h) (and_left (is_fine (faults_by g h)) (all_fine g es) e))
    (all-fine g es fs (and_right (is_fine (faults_by g h)) (all_fine g es) e))

-- and one behind another is fine if both are
pub fine-append : (g : Given) (a b : List Entry) → all_fine g (a ++ b) ≡ all_fine g a && all_fine g b
fine-append g [] b = refl
fine-append g (e ∷ a) b = rw (fine-append g a b) (and_assoc (is_fine (faults_by g e)) (all_fine g a) (all_fine g b))
