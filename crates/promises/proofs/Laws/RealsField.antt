-- A real field keeps its promise where its text is read as what is written there, and its entry alone can name its columns: the entry gives a
-- fault exactly where no number is written, and a written number has a double near it.
--     Reads, decimal-reads, factor-reads    of what is written, what is read: a double near it, that 64 bits hold, with M below 10 ^ 10; or none
--     Looks                                 what is seen of a field of a line: its text, value and faults
--     kept                                  so it keeps its promise
--     Told, told                            and where a number is written, its double is near it
-- Assumes nothing.
use Prim.Native.Nat.{ℕ, ◌-◌, ◌*◌, ◌^◌, ◌≤◌, ◌<◌}
use mathlib.Core.Path.{◌≡◌, refl, sym, ap, ◌∙◌}
use mathlib.Core.Bool.{Bool, true, false, cond}
use mathlib.Core.List.{List, [], ◌∷◌, ◌++◌}
use native.Mathlib.Omega.{arith}
use lib.ListN.{length, take, drop, length-take}
use lib.Dec.{T, leb, ltb}
use lib.IntN.{ℤ, pos}
use lib.Ieee.{Float, binary64, fits, of_int}
use lib.Ieee.Fits.{div-fits}
use lib.Ieee.Scale.{finite}
use Rattle.std.specs.Prelude.{Option, Some, None, option_map, is_some, unwrap_or}
use Rattle.number.specs.Decimal.{plain}
use Rattle.number.specs.Wide.{wide}
use Rattle.number.specs.Whole.{signed_of}
use Rattle.real.specs.Near.{NearOver}
use Rattle.real.specs.Real.{ten_thousandths_of, ten_thousandth}
use Rattle.real.specs.Wide.{raised, lowered, real_with, said_with, scale_with}
use Rattle.number.specs.declared.wide.Wide.{Wide}
use Rattle.real.proofs.Laws.Real.{ten_thousandths_near}
use Rattle.real.proofs.Laws.WideReal.{with-said, with_not, plain_over, near-written}
use Rattle.number.proofs.Laws.Width.{signed-within}
use Rattle.line.specs.Columns.{part_of}
use Rattle.line.specs.declared.columns.Columns.{Columns}
use Rattle.line.specs.declared.fault.FaultKind.TheVariants.{Short, Wrong}
use Rattle.line.specs.declared.fault.Sort.{Sort}
use Rattle.field.specs.Number.{number_faults, fault_at}
use Rattle.promises.specs.Reals.{RealField, named_by, in_ten_thousandths, Kept}
use Rattle.promises.proofs.Laws.RealsNamed.{none_named, own-named}

-- ---- a text
pub part-width : (l : List ℕ) (at : Columns) → length (part_of l at) ≤ at.end - at.start
unfolding part_of
part-width l at = go (ltb (length l) at.end)
  where
    go : (b : Bool) → length (cond b [] (take (at.end - at.start) (drop at.start l))) ≤ at.end - at.start
    go true = omega arith
    go false = simp length-take (omega arith)

-- a quotient of doubles is one that 64 bits hold
tenth-held : (z : ℤ) → T (fits binary64 (ten_thousandth z))
unfolding ten_thousandth
tenth-held z = div-fits binary64 (of_int binary64 z) (of_int binary64 (pos 10000))

-- a written number's double, over 2 ^ scale
pub record Told (scale : ℕ) (s : Bool) (m p : ℕ) (lower : Bool) (x : ℕ) (y : Float) : Type 0 where
  pub near : NearOver scale s (m * 10 ^ raised lower x p) (lowered lower x p) y
  pub held : T (fits binary64 y)
  pub few : m < 10 ^ 10

-- what is read of what is written
abbrev pub Reads : ℕ → Option Wide → Option Float → Type 0
Reads scale (Some w) text =
    (y : Float) × (text ≡ Some y) × Told scale w.decimal.minus w.decimal.digits w.decimal.places w.lower w.exponent y
Reads scale None text = text ≡ None

pub decimal-reads : (on : Bool) (t : List ℕ) → Reads (scale_with on) (said_with on t) (option_map (λ r. r.value) (real_with on t))
decimal-reads on t = go (said_with on t) refl
  where
    go : (w : Option Wide) → said_with on t ≡ w → Reads (scale_with on) w (option_map (λ r. r.value) (real_with on t))
    go (Some w) e =
        let d = with-said on t e in (d.double, ap (option_map (λ r. r.value)) d.is, record { near = d.near; held = d.held; few = d.few })
    go None e = ap (option_map (λ r. r.value)) (with_not on t e)

pub factor-reads : (t : List ℕ) → length t ≤ 7 → Reads 82 (in_ten_thousandths (signed_of t)) (ten_thousandths_of t)
unfolding ten_thousandths_of
factor-reads t seven = go (signed_of t) refl
  where
    none : (b : Bool) → cond {A = Option Float} b None None ≡ None
    none true = refl
    none false = refl

    go : (z : Option ℤ) → signed_of t ≡ z → Reads 82 (in_ten_thousandths z) (ten_thousandths_of t)
    go (Some z) said =
        let (is, near) = ten_thousandths_near t said seven in
        (ten_thousandth z, is, record { near = plain_over near; held = tenth-held z; few = signed-within t said 10 (omega arith) })
    go None said = rw said (none (leb (length t) 7))

-- ---- a number's entry gives one fault, which names its columns, where the line doesn't reach or the text says no number; else it gives none
pub number-named : (l : List ℕ) (at : Columns) (sort : Sort) (fine : Bool)
    → named_by at (number_faults l at sort fine ++ []) ≡ cond (ltb (length l) at.end) 1 (cond fine 0 1)
unfolding number_faults
number-named l at sort fine = go (ltb (length l) at.end) fine
  where
    go : (b fine : Bool)
        → named_by at (cond b (fault_at Short at ∷ []) (cond fine [] (fault_at (Wrong sort) at ∷ [])) ++ []) ≡ cond b 1 (cond fine 0 1)
    go true fine = own-named at Short
    go false true = none_named at
    go false false = own-named at (Wrong sort)

-- ---- a field, with how many faults name its columns
pub record Looks (f : RealField) (named : ℕ) : Type 0 where
  -- what its text is read as, and whether the line ends before it
  pub text : Option Float
  pub short : Bool
  pub none : short ≡ true → text ≡ None
  pub reads : Reads f.scale f.written text
  pub value : f.double ≡ unwrap_or text f.default
  pub named-is : named ≡ cond short 1 (cond (is_some text) 0 1)
  pub finite_is : finite f.default ≡ true
  -- a double over 2 ^ scale is one over 2 ^ 126
  pub finer : {s : Bool} {n b : ℕ} {y : Float} → NearOver f.scale s n b y → NearOver 126 s n b y

module _ (f : RealField) (named : ℕ) (look : Looks f named) where
  pub kept : Kept f.written named f
  kept = go f.written look.reads
    where
      unread : (short : Bool) → cond {A = ℕ} short 1 1 ≡ 1
      unread true = refl
      unread false = refl

      read : (short : Bool) (y : Float) → (short ≡ true → look.text ≡ None) → look.text ≡ Some y → cond {A = ℕ} short 1 0 ≡ 0
      read false y none is = refl
      read true y none is = absurd (let clash = none refl in let z : ◌≡◌ {A = ℕ} 0 1 = cc in omega arith)

      go : (w : Option Wide) → Reads f.scale w look.text → Kept w named f
      go (Some w) (y, is, d) =
          let same : y ≡ f.double = sym (look.value ∙ ap (λ (t : Option Float). unwrap_or t f.default) is) in
          (look.named-is ∙ rw is (read look.short y look.none is), near-written f.scale (rw same at d.near))
      go None is = (look.named-is ∙ rw is (unread look.short), look.value ∙ ap (λ (t : Option Float). unwrap_or t f.default) is)

  pub told : (s : Bool) (m p : ℕ) (lower : Bool) (x : ℕ) → f.written ≡ Some (wide (plain s m p) lower x) → Told f.scale s m p lower x f.double
  told s m p lower x e =
      let reads : Reads f.scale (Some (wide (plain s m p) lower x)) look.text = rw e at look.reads in
      let same : reads.0 ≡ f.double = sym (look.value ∙ ap (λ (t : Option Float). unwrap_or t f.default) reads.1) in
      rw same at reads.2
