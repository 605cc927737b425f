-- Laws of the bytes that are mended.
--     byte_low, byte_kept      a mended byte is below 128, and one that is below stays
--     questioned-length, questioned-at, questioned-low, questioned-same, questioned-append
--     kind-questioned          no kind's name has a byte that is mended or made
-- Assumes nothing.
use Prim.Native.Nat.{ℕ, zero, suc, ◌<◌, ◌≤◌}
use mathlib.Core.Path.{◌≡◌, refl, sym, ap, ◌∙◌}
use mathlib.Core.Bool.{Bool, true, false, cond, not, ◌&&◌}
use mathlib.Core.List.{List, [], ◌∷◌, ◌++◌}
use native.Mathlib.Omega.{arith}
use borrow.Author.Tests.{ltb-true, ltb-false, lt-ltb, ne_eqb}
use lib.ListN.{length, take, get_or}
use lib.Dec.{ltb, eqb, lit<}
use Rattle.number.proofs.Laws.Choice.{and_left, and_right, clash}
use Rattle.kind.specs.Kind.{Named, kind_of, kind_by, same, names_by, short_names, ends_model}
use Rattle.line.specs.Bytes.{bytes}
use Rattle.line.specs.declared.options.Mode.{Mode}
use Rattle.line.specs.declared.options.Mode.TheVariants.{Crate, WwPdb}
use Rattle.margins.specs.Differ.{Low}
use Rattle.mend.specs.Mend.{mended_byte, questioned}

-- ---- a byte
byte_cases : (P : ℕ → Type 0) (b : ℕ) → (b < 128 → P b) → (128 ≤ b → P 63) → P (mended_byte b)
unfolding mended_byte
byte_cases P b f g = go (ltb b 128) refl
  where
    go : (x : Bool) → ltb b 128 ≡ x → P (cond x b 63)
    go true e = f (ltb-true b 128 e)
    go false e = g (ltb-false b 128 e)

pub byte_low : (b : ℕ) → mended_byte b < 128
byte_low b = byte_cases (λ x. x < 128) b (λ h. h) (λ h. lit< tt)

pub byte_kept : (b : ℕ) → b < 128 → mended_byte b ≡ b
unfolding mended_byte
byte_kept b h = rw (lt-ltb b 128 h) refl

byte_name : (b x : ℕ) → ltb x 128 && not (eqb x 63) ≡ true → eqb (mended_byte b) x ≡ eqb b x
byte_name b x e =
    let p = ltb-true x 128 (and_left (ltb x 128) (not (eqb x 63)) e) in
    byte_cases (λ y. eqb y x ≡ eqb b x) b (λ h. refl)
    (λ h. ne_eqb 63 x (λ z. clash (and_right (ltb x 128) (not (eqb x 63)) e) (rw (sym z) refl)) ∙ sym (ne_eqb b x (λ z. omega arith)))

-- ---- all of them
pub questioned-length : (l : List ℕ) → length (questioned l) ≡ length l
unfolding questioned
questioned-length [] = refl
questioned-length (b ∷ t) = ap suc (questioned-length t)

pub questioned-at : (l : List ℕ) (at : ℕ) → get_or (questioned l) at 0 ≡ mended_byte (get_or l at 0)
unfolding questioned mended_byte
questioned-at [] at = refl
questioned-at (b ∷ t) zero = refl
questioned-at (b ∷ t) (suc at) = questioned-at t at

pub questioned-low : (l : List ℕ) → Low (questioned l)
questioned-low l at = rw (questioned-at l at) (byte_low (get_or l at 0))

pub questioned-same : (l : List ℕ) → Low l → questioned l ≡ l
unfolding questioned
questioned-same [] h = refl
questioned-same (b ∷ t) h = rw (byte_kept b (h 0), questioned-same t (λ at. h (suc at))) refl

pub questioned-append : (s t : List ℕ) → questioned (s ++ t) ≡ questioned s ++ questioned t
unfolding questioned
questioned-append [] t = refl
questioned-append (b ∷ s) t = rw (questioned-append s t) refl

questioned-take : (n : ℕ) (l : List ℕ) → take n (questioned l) ≡ questioned (take n l)
unfolding questioned
questioned-take zero l = refl
questioned-take (suc n) [] = refl
questioned-take (suc n) (b ∷ t) = rw (questioned-take n t) refl

-- ---- the kind
abbrev fit : List ℕ → Bool
fit [] = true
fit (x ∷ n) = (ltb x 128 && not (eqb x 63)) && fit n

abbrev all_fit : List Named → Bool
all_fit [] = true
all_fit (n ∷ ns) = fit n.name && all_fit ns

same-questioned : (t n : List ℕ) → fit n ≡ true → same (questioned t) n ≡ same t n
unfolding questioned
same-questioned [] [] e = refl
same-questioned [] (x ∷ n) e = refl
same-questioned (b ∷ t) [] e = refl
same-questioned (b ∷ t) (x ∷ n) e =
    rw (byte_name b x (and_left (ltb x 128 && not (eqb x 63)) (fit n) e), same-questioned t n (and_right (ltb x 128 && not (eqb x 63)) (fit n) e)) refl

by_questioned : (t : List ℕ) (ns : List Named) → all_fit ns ≡ true → kind_by (questioned t) ns ≡ kind_by t ns
by_questioned t [] e = refl
by_questioned t (n ∷ ns) e =
    rw (same-questioned t n.name (and_left (fit n.name) (all_fit ns) e), by_questioned t ns (and_right (fit n.name) (all_fit ns) e)) refl

names-fit : (atoms : Bool) → all_fit (names_by atoms) ≡ true
names-fit true = refl
names-fit false = refl

ends-questioned : (mode : Mode) (l : List ℕ) → ends_model mode (questioned l) ≡ ends_model mode l
ends-questioned Crate l = refl
ends-questioned WwPdb l = same-questioned l (bytes "ENDMDL") refl

pub kind-questioned : (atoms : Bool) (mode : Mode) (l : List ℕ) → kind_of atoms mode (questioned l) ≡ kind_of atoms mode l
unfolding kind_of
kind-questioned atoms mode l =
    rw (
      questioned-length l,
      questioned-take 6 l,
      questioned-take 3 l,
      by_questioned (take 6 l) (names_by atoms) (names-fit atoms),
      by_questioned (take 3 l) short_names refl,
      ends-questioned mode l,
    )
    refl
