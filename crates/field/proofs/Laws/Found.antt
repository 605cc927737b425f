-- What a field is read as, by its value or its default.
--     fine-none     a field that is fine has no fault
--     fine-some     a value that was found is that of a field that is fine
--     fine-cond     the same by the test of the faults
--     if-none       what a closure asks, where nothing was found
--     got-found     a value that was found has none noted, and the default has the field's one
-- Assumes nothing.
use mathlib.Core.Path.{◌≡◌, refl, sym, ap, ◌∙◌}
use mathlib.Core.Bool.{true, false, cond}
use mathlib.Core.List.{List, [], ◌∷◌}
use Rattle.std.specs.Prelude.{Option, Some, None, MatchOption, IfNone}
use Rattle.line.specs.Faults.{noted}
use Rattle.line.specs.declared.fault.Fault.{Fault}
use Rattle.line.specs.declared.fault.Faults.{Faults}
use Rattle.line.specs.declared.fault.Got.{Got}
use Rattle.field.specs.Found.{is_fine, fine, got}

pub fine-none : (fs : List Fault) → is_fine fs ≡ true → fs ≡ []
fine-none [] e = refl
fine-none (f ∷ t) e = cc

-- a value that was found is the field's, and the field is fine
pub fine-some : {A : Type 0} (own : List Fault) (v : A) {x : A} → fine own v ≡ Some x → (x ≡ v) × (is_fine own ≡ true)
fine-some [] v e = (cc, refl)
fine-some (f ∷ t) v e = cc

pub fine-cond : {A : Type 0} (own : List Fault) (v : A) → fine own v ≡ cond (is_fine own) (Some v) None
fine-cond [] v = refl
fine-cond (f ∷ t) v = refl

-- what is asked of a closure, where nothing was found
pub if-none : {A : Type 0} (own : List Fault) (v : A) (P : Type 0) {found : Option A} → found ≡ fine own v → (is_fine own ≡ false → P) → IfNone found P
if-none own v P e ask = rw e (go own ask)
  where
    go : (own : List Fault) → (is_fine own ≡ false → P) → IfNone (fine own v) P
    go [] ask = tt
    go (f ∷ t) ask = ask refl

-- what a call of `found_or` says, of a closure that answers P
abbrev pub Says : {A : Type 0} → Option A → A → Faults → (Fault → Type 0) → Got A → Type 0
Says found default fs P r =
    MatchOption found ((one : Fault) × P one × (r ≡ record { value = default; faults = noted fs one })) (λ x. r ≡ record { value = x; faults = fs })

pub got-found : {A : Type 0} (own : List Fault) (v default : A) (one : Fault) (fs : Faults) (P : Fault → Type 0) {found : Option A} {r : Got A}
    → found ≡ fine own v → (is_fine own ≡ false → own ≡ one ∷ []) → (is_fine own ≡ false → v ≡ default) → ((f : Fault) → P f → f ≡ one)
    → Says found default fs P r → r ≡ got v own fs
got-found own v default one fs P {r} e its-own its-value is says = go own (rw e at says) its-own its-value
  where
    go : (own : List Fault) → Says (fine own v) default fs P r → (is_fine own ≡ false → own ≡ one ∷ []) → (is_fine own ≡ false → v ≡ default)
        → r ≡ got v own fs
    go [] s o d = s
    go (f ∷ t) s o d = s.2 ∙ rw (is s.0 s.1, sym (d refl)) (ap (λ own. got v own fs) (sym (o refl)))
