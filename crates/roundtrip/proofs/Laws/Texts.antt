-- A text that fits its columns reads back, without a fault: the view of what is read there is the text.
--     text_in          with no white space at its ends
--     lent_in          the lent name, trimmed
--     within_in        a text of what the line reaches of its columns
--     optional_in      a character whose blank means absent
--     character_in     one whose blank is itself
--     blank_in         such a one that is absent
-- Assumes nothing.
use mathlib.Core.Path.{◌≡◌, refl, sym, ap, ◌∙◌}
use Prim.Native.Nat.{ℕ, ◌+◌, ◌-◌, ◌≤◌, ◌<◌}
use native.Mathlib.Omega.{arith}
use borrow.Author.Tests.{le-ltb, lt-ltb, le-leb, ne_eqb}
use mathlib.Core.Bool.{Bool, true, false}
use mathlib.Core.List.{List, [], ◌∷◌}
use lib.ListN.{length, take, drop, get_or}
use lib.Seq.{get_or-take, get_or-drop}
use Rattle.number.specs.Trim.{white, leading, kept, end_trimmed, trimmed}
use Rattle.number.proofs.Laws.Choice.{and_left}
use Rattle.line.specs.Columns.{part_of, reached_of}
use Rattle.line.specs.Text.{within_of, view_of}
use Rattle.line.specs.declared.columns.Columns.{Columns}
use Rattle.line.specs.declared.text.Field.TheVariants.{Words, One}
use Rattle.field.specs.Text.{text_at, text_within, text_faults, optional_at, character_at, character_faults}
use Rattle.cell.specs.Cell.{fitting}
use Rattle.cell.specs.Text.{blanks, right}
use Rattle.cell.specs.Words.{printable, left, words_fit, words_bytes, lent_fits, lent_bytes}
use Rattle.sheet.specs.Ink.{Ink}
use Rattle.sheet.specs.Sheet.{◌holds◌}
use Rattle.roundtrip.specs.Returned.{Clean}
use Rattle.roundtrip.proofs.Laws.Stand.{Held}
use Rattle.roundtrip.proofs.Laws.Small.{fitting-le}
use Rattle.roundtrip.proofs.Laws.Trimmed.{side_trimmed, span_view}

-- ---- what is written
module _ (w : ℕ) (t : List ℕ) where
  words-short : words_fit w t ≡ true → length t ≤ w
  unfolding words_fit
  words-short e = fitting-le w t (and_left (fitting w t) (printable t) e)

  words-trimmed : (isLeft : Bool) → words_fit w t ≡ true → trimmed (words_bytes isLeft w t) ≡ trimmed t
  unfolding words_bytes
  words-trimmed isLeft e = rw e (side_trimmed isLeft w t)

  lent_is : lent_fits w t ≡ true → lent_bytes w t ≡ t
  unfolding lent_bytes
  lent_is e = rw e refl

-- ---- in its columns
module _ (l : List ℕ) (at : Columns) (reach : at.end ≤ length l) where
  text-fine : text_faults l at ≡ []
  unfolding text_faults
  text-fine = rw (le-ltb (length l) at.end reach) refl

  text_view : at.start ≤ at.end → (standIn : List ℕ) → view_of l standIn (Words (text_at l at)) ≡ trimmed (part_of l at)
  unfolding text_at part_of
  text_view h standIn =
      rw (le-ltb (length l) at.end reach)
      (span_view l at.start (at.end - at.start) (take (at.end - at.start) (drop at.start l)) refl (omega arith))

  within_view : at.start ≤ at.end → (standIn : List ℕ) → view_of l standIn (Words (text_within l at)) ≡ trimmed (part_of l at)
  unfolding text_within reached_of part_of
  within_view h standIn =
      rw (le-ltb (length l) at.end reach)
      (span_view l at.start (at.end - at.start) (take (at.end - at.start) (drop at.start l)) refl (omega arith))

module _ {l : List ℕ} {at : Columns} {t : List ℕ} where
  pub text_in : {isLeft : Bool} → Held l (at holds Ink.words isLeft t) → at.start ≤ at.end → Clean t
      → ((standIn : List ℕ) → view_of l standIn (Words (text_at l at)) ≡ t) × (text_faults l at ≡ [])
  text_in {isLeft} h order clean = (
    λ standIn. text_view l at h.reach order standIn ∙ ap trimmed h.part ∙ words-trimmed (at.end - at.start) t isLeft h.fits ∙ clean,
    text-fine l at h.reach,
  )

  pub lent_in : Held l (at holds Ink.lent t) → at.start ≤ at.end
      → ((standIn : List ℕ) → view_of l standIn (Words (text_at l at)) ≡ trimmed t) × (text_faults l at ≡ [])
  lent_in h order = (
    λ standIn. text_view l at h.reach order standIn ∙ ap trimmed h.part ∙ ap trimmed (lent_is (at.end - at.start) t h.fits),
    text-fine l at h.reach,
  )

  pub within_in : {isLeft : Bool} → Held l (at holds Ink.words isLeft t) → at.start ≤ at.end → Clean t
      → (standIn : List ℕ) → view_of l standIn (Words (text_within l at)) ≡ t
  within_in {isLeft} h order clean standIn =
      within_view l at h.reach order standIn ∙ ap trimmed h.part ∙ words-trimmed (at.end - at.start) t isLeft h.fits ∙ clean

-- ---- one column
one_none : (isLeft : Bool) → words_bytes isLeft 1 [] ≡ 32 ∷ []
unfolding words_bytes words_fit fitting printable left right blanks
one_none true = refl
one_none false = refl

one-some : (isLeft : Bool) (b : ℕ) → words_fit 1 (b ∷ []) ≡ true → words_bytes isLeft 1 (b ∷ []) ≡ b ∷ []
unfolding words_bytes left right blanks
one-some true b e = rw e refl
one-some false b e = rw e refl

clean_dark : (b : ℕ) → Clean (b ∷ []) → b ≡ 32 → ⊥
unfolding trimmed end_trimmed leading kept white
clean_dark b clean e = let n : ◌≡◌ {A = ℕ} 0 1 = ap length (rw e at clean) in omega arith

module _ (l : List ℕ) (at : Columns) (reach : at.end ≤ length l) (one : at.end - at.start ≡ 1) where
  inside : at.start < length l
  inside = omega arith

  one-part : take 1 (drop at.start l) ≡ part_of l at
  unfolding part_of
  one-part = rw (le-ltb (length l) at.end reach, one) refl

  pub one_byte : (b : ℕ) → part_of l at ≡ b ∷ [] → get_or l at.start 0 ≡ b
  one_byte b e =
      let here : at.start + 0 ≡ at.start = omega arith in
      ap (λ (k : ℕ). get_or l k 0) (sym here) ∙ sym (get_or-drop at.start l 0 0)
      ∙ sym (get_or-take 1 (drop at.start l) 0 0 (omega arith)) ∙ ap (λ (z : List ℕ). get_or z 0 0) (one-part ∙ e)

  one_view : (b : ℕ) → part_of l at ≡ b ∷ [] → within_of l at.start 1 ≡ b ∷ []
  unfolding within_of
  one_view b e = rw (le-leb (at.start + 1) (length l) (omega arith)) (one-part ∙ e)

  character_fine : character_faults l at.start ≡ []
  unfolding character_faults
  character_fine = rw (lt-ltb at.start (length l) inside) refl

  character_view : (b : ℕ) → part_of l at ≡ b ∷ [] → (standIn : List ℕ) → view_of l standIn (One (character_at l at.start)) ≡ b ∷ []
  unfolding character_at
  character_view b e standIn = rw (lt-ltb at.start (length l) inside) (one_view b e)

  optional_none : part_of l at ≡ 32 ∷ [] → (standIn : List ℕ) → view_of l standIn (One (optional_at l at.start)) ≡ []
  unfolding optional_at
  optional_none e standIn = rw (lt-ltb at.start (length l) inside, one_byte 32 e) refl

  optional_some : (b : ℕ) → part_of l at ≡ b ∷ [] → (b ≡ 32 → ⊥) → (standIn : List ℕ) → view_of l standIn (One (optional_at l at.start)) ≡ b ∷ []
  unfolding optional_at
  optional_some b e dark standIn = rw (lt-ltb at.start (length l) inside, one_byte b e, ne_eqb b 32 dark) (one_view b e)

module _ {l : List ℕ} {at : Columns} {isLeft : Bool} {t : List ℕ} (h : Held l (at holds Ink.words isLeft t)) (one : at.end - at.start ≡ 1) where
  bytes_one : part_of l at ≡ words_bytes isLeft 1 t
  bytes_one = h.part ∙ rw one refl

  fits_one : words_fit 1 t ≡ true
  fits_one = rw one at h.fits

  pub optional_in : Clean t → ((standIn : List ℕ) → view_of l standIn (One (optional_at l at.start)) ≡ t) × (character_faults l at.start ≡ [])
  optional_in clean = (go t bytes_one fits_one clean, character_fine l at h.reach one)
    where
      go : (t : List ℕ) → part_of l at ≡ words_bytes isLeft 1 t → words_fit 1 t ≡ true → Clean t
          → (standIn : List ℕ) → view_of l standIn (One (optional_at l at.start)) ≡ t
      go [] e f clean = optional_none l at h.reach one (e ∙ one_none isLeft)
      go (b ∷ []) e f clean = optional_some l at h.reach one b (e ∙ one-some isLeft b f) (clean_dark b clean)
      go (b ∷ c ∷ t) e f clean = absurd (omega (arith, words-short 1 (b ∷ c ∷ t) f))

  pub character_in : length t ≡ 1
      → ((standIn : List ℕ) → view_of l standIn (One (character_at l at.start)) ≡ t) × (character_faults l at.start ≡ [])
  character_in n = (go t bytes_one fits_one n, character_fine l at h.reach one)
    where
      go : (t : List ℕ) → part_of l at ≡ words_bytes isLeft 1 t → words_fit 1 t ≡ true → length t ≡ 1
          → (standIn : List ℕ) → view_of l standIn (One (character_at l at.start)) ≡ t
      go [] e f n = absurd (omega arith)
      go (b ∷ []) e f n = character_view l at h.reach one b (e ∙ one-some isLeft b f)
      go (b ∷ c ∷ t) e f n = absurd (omega arith)

  -- a character of no bytes, where a blank is itself
  pub blank_in : t ≡ []
      → (get_or l at.start 0 ≡ 32) × ((standIn : List ℕ) → view_of l standIn (One (character_at l at.start)) ≡ 32 ∷ [])
  blank_in none =
      let e = bytes_one ∙ ap (words_bytes isLeft 1) none ∙ one_none isLeft in
      (one_byte l at h.reach one 32 e, character_view l at h.reach one 32 e)
