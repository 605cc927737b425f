-- Laws of single fields.
--     part-short                 columns that the line doesn't reach hold the empty part
--     unsigned-none, ..          which says no number
--     two-columns                where two bytes stand, there are two columns
--     signed-held, charge-held   a signed field comes back from its bits
--     span_within                a trimmed text lies in its part
--     whole_span, whole-text     it is the part where that begins and ends with a byte over 32
-- Assumes nothing.
use Prim.Native.Nat.{ℕ, zero, suc, ◌+◌, ◌-◌, ◌^◌, ◌≤◌, ◌<◌}
use mathlib.Core.Path.{◌≡◌, refl, sym, ap, ◌∙◌}
use mathlib.Core.Bool.{Bool, true, false, cond, not, ◌&&◌, and-false}
use mathlib.Core.List.{List, []}
use native.Mathlib.Omega.{arith}
use borrow.Author.Tests.{leb-true, lt-leb, ne_eqb}
use Rattle.std.specs.Prelude.{Option, Some, None, unwrap_or}
use lib.ListN.{length, take, drop, get_or, length-take}
use lib.Seq.{take_all}
use lib.Dec.{leb, ltb, eqb, lit<}
use lib.IntN.{ℤ, pos}
use lib.Signed.{mag}
use mir.Syntax.{w64}
use mir.Val.{to_z, of_z}
use mir.Facts.{to_z-of_z}
use Rattle.number.specs.Trim.{white, leading, kept, trimmed, end_trimmed, span_of}
use Rattle.number.specs.Whole.{digit, digits, begins, after_plus, after_sign, digits_of, unsigned_of, signed_digits, signed_of, with_sign}
use Rattle.number.specs.Decimal.{before_point, behind_point, without_point, plain_of, decimal_of}
use Rattle.number.specs.Wide.{mark_at, marked_parts, marked_in, marked_of, wide_of}
use Rattle.real.specs.Real.{real_of, ten_thousandths_of}
use Rattle.real.specs.Wide.{real_with}
use Rattle.number.specs.declared.trim.Span.{Span}
use Rattle.number.proofs.Laws.Trim.{leading_le, leading-none, kept_at, span_some}
use Rattle.number.proofs.Laws.Width.{signed-fits}
use Rattle.line.specs.Columns.{part_of}
use Rattle.line.specs.declared.columns.Columns.{Columns}
use Rattle.field.specs.Number.{signed_at}
use Rattle.field.specs.Text.{shifted}
use Rattle.line.specs.declared.text.Text.{Text}
use Rattle.field.specs.Charge.{is_sign, charged, charge_of, charge_at}

pub part-short : (l : List ℕ) (at : Columns) → ltb (length l) at.end ≡ true → part_of l at ≡ []
unfolding part_of
part-short l at e = rw e refl

pub unsigned-none : unsigned_of [] ≡ None
unfolding unsigned_of digits_of digits after_plus begins trimmed end_trimmed leading kept
unsigned-none = refl

pub signed-none : signed_of [] ≡ None
unfolding signed_of signed_digits digits after_sign begins trimmed end_trimmed leading kept
signed-none = refl

pub real-none : (on : Bool) → real_with on [] ≡ None
unfolding real_with real_of decimal_of plain_of without_point before_point behind_point digits after_sign begins trimmed end_trimmed leading kept
    wide_of marked_of marked_in marked_parts mark_at digits_of
real-none false = refl
real-none true = refl

pub factor-none : ten_thousandths_of [] ≡ None
unfolding ten_thousandths_of signed_of signed_digits digits after_sign begins trimmed end_trimmed leading kept
factor-none = refl

pub span_within : (t : List ℕ) → (span_of t).place ≤ length t
unfolding span_of
span_within t = go (eqb (length (trimmed t)) 0) (leading_le t)
  where
    go : (b : Bool) → leading t ≤ length t
        → (cond {A = Span} b (record { place = 0; length = 0 }) (record { place = leading t; length = length (trimmed t) })).place ≤ length t
    go true h = omega arith
    go false h = h

-- a byte over 32 is kept, so one at each end keeps all between
over_black : (b : ℕ) → 32 < b → white b ≡ false
unfolding white
over_black b h = rw (ne_eqb b 32 (λ q. omega arith), lt-leb b 13 (omega arith)) (and-false (leb 9 b))

pub whole_span : (t : List ℕ) → 0 < length t → 32 < get_or t 0 0 → 32 < get_or t (length t - 1) 0
    → span_of t ≡ record { place = 0; length = length t }
whole_span t h a b =
    let none : length t - 0 ≡ length t = omega arith in
    let all = ap (λ (n : ℕ). take n t) none in
    let last = kept_at t (length t - 1) (omega arith) (ap not (over_black (get_or t (length t - 1) 0) b)) (λ k l m. absurd (omega arith)) in
    let each : length t ≡ kept t = omega arith in
    sym (span_some t 0 (length t) (sym (leading-none t (over_black (get_or t 0 0) a)))
    (each ∙ sym (ap kept (all ∙ take_all (length t) t (omega arith)))) (λ q. omega arith))

pub whole-text : (start : ℕ) (t : List ℕ) → (0 < length t) × (span_of t ≡ record { place = 0; length = length t })
    → record { place = start; length = length t } ≡ shifted start (span_of t)
whole-text start t (h, e) =
    let same : start ≡ start + 0 = omega arith in
    rw (e, ne_eqb (length t) 0 (λ q. omega arith)) (ap {B = Text} (λ (n : ℕ). record { place = n; length = length t }) same)

-- two bytes in the columns, then a second column is no further than 16 bits count
pub two-columns : (l : List ℕ) (at : Columns) → length (part_of l at) ≡ 2 → at.start + 2 ≤ at.end
unfolding part_of
two-columns l at e = go (ltb (length l) at.end) e
  where
    go : (b : Bool) → length (cond b [] (take (at.end - at.start) (drop at.start l))) ≡ 2 → at.start + 2 ≤ at.end
    go true e = absurd (omega arith)
    go false e = let h = length-take (at.end - at.start) (drop at.start l) in omega arith

-- ---- what the machine reads back from a signed field's bits is the field
signed_in_lem : (t : List ℕ) (s : Option ℤ) → signed_of t ≡ s → mag (unwrap_or s (pos 0)) < 2 ^ 63
signed_in_lem t (Some z) e = signed-fits t e
signed_in_lem t None e = lit< tt

pub signed-held : (l : List ℕ) (at : Columns) → to_z w64 (of_z w64 (signed_at l at)) ≡ signed_at l at
unfolding signed_at
signed-held l at = to_z-of_z {w = w64} (record { sfits = signed_in_lem (part_of l at) (signed_of (part_of l at)) refl })

sign_in : (s : Bool) (n : ℕ) → n ≤ 2 ^ 63 - 1 → mag (with_sign s n) < 2 ^ 63
sign_in false n h = omega arith
sign_in true zero h = omega arith
sign_in true (suc n) h = omega arith

charge_in : (d s : ℕ) → mag (charge_of d s) < 2 ^ 63
unfolding charge_of digit
charge_in d s = go (leb 48 d) (leb d 57) refl (is_sign s)
  where
    go : (a b : Bool) → leb d 57 ≡ b → (k : Bool) → mag (cond {A = ℤ} ((a && b) && k) (with_sign (eqb s 45) (d - 48)) (pos 0)) < 2 ^ 63
    go false b e k = lit< tt
    go true false e k = lit< tt
    go true true e false = lit< tt
    go true true e true = let h = leb-true d 57 e in sign_in (eqb s 45) (d - 48) (omega arith)

pub charge-held : (l : List ℕ) (at : Columns) → to_z w64 (of_z w64 (charge_at l at)) ≡ charge_at l at
unfolding charge_at
charge-held l at = go (charged (part_of l at))
  where
    go : (b : Bool) → to_z w64 (of_z w64 (cond b (charge_of (get_or (part_of l at) 0 0) (get_or (part_of l at) 1 0)) (pos 0)))
        ≡ cond b (charge_of (get_or (part_of l at) 0 0) (get_or (part_of l at) 1 0)) (pos 0)
    go true = to_z-of_z {w = w64} (record { sfits = charge_in (get_or (part_of l at) 0 0) (get_or (part_of l at) 1 0) })
    go false = refl
