-- A row's words say the row, if its parts are within the bounds that the words have for them.
--     low_part, high_part        the parts of a word
--     head-parts                 a field's first word gives back its column, its sort and its places
--     Sound, and its parts       those bounds: columns of 16 bits, signed numbers of 64, a text's place and length of 32, bytes of the line
--     row-says                   the words of a row within them say it
--     words-held, bytes-held     rows that show nothing have neither words nor bytes
-- Assumes nothing.
use Prim.Native.Nat.{ℕ, ◌+◌, ◌*◌, ◌/◌, ◌%◌, ◌^◌, ◌<◌}
use mathlib.Core.Path.{◌≡◌, refl, ap, ◌∙◌}
use mathlib.Core.Bool.{Bool, true, false, cond}
use mathlib.Core.List.{List, [], ◌∷◌, ◌++◌}
use native.Mathlib.Nat.{zero-add, add_comm, add-mul-div_right, add-mul-mod_self_right, mod-eq_of_lt, div-eq_of_lt}
use native.Mathlib.Omega.{arith}
use borrow.Author.Tests.{le-leb, ne_eqb}
use lib.IntN.{ℤ}
use lib.Ieee.{binary64, to_bits}
use lib.ListN.{length, get_or}
use lib.Seq.{drop-cons}
use lib.Dec.{lit<}
use Rattle.layout.specs.Each.{each}
use Rattle.layout.specs.Row.{present, value_bytes, row_bytes, rows_bytes}
use Rattle.lexitem.specs.Shown.{keep, held}
use Rattle.line.specs.Text.{within_of}
use Rattle.line.specs.declared.text.Character.{Character}
use Rattle.line.specs.declared.text.Character.TheVariants.{At, Unreached, Absent}
use Rattle.line.specs.declared.text.Text.{Text}
use Rattle.page.specs.Numerals.{decimal, signed_decimal}
use Rattle.row.specs.declared.Row.{Row}
use Rattle.row.specs.declared.Value.{Value}
use Rattle.row.specs.declared.Value.TheVariants.{Unsigned, Signed, Real, Factor, Words, One, Flag, Nothing}
use Rattle.wording.specs.Fields.{head_word, twos, text_word, flag_word, character_words, value_words, row_words, rows_words}
use Rattle.saying.specs.Said.{signed_in, value_said, row_said}
use Rattle.saying.proofs.Laws.Pairs.{Says}

-- ---- the parts of a word
-- a number below another one, and a multiple of that one
pub low_part : (a b m : ℕ) → a < m → (a + b * m) % m ≡ a
low_part a b m h = add-mul-mod_self_right a b m ∙ mod-eq_of_lt h

pub high_part : (a b m : ℕ) → a < m → (a + b * m) / m ≡ b
high_part a b m h =
    let none : 0 < m = omega arith in
    add-mul-div_right a b none ∙ ap (λ (q : ℕ). q + b) (div-eq_of_lt h) ∙ zero-add b

module _ (column sort places : ℕ) (few : column < 65536) (small : sort < 256) where
  apart : head_word column sort places ≡ column + (sort + places * 256) * 65536
  apart = omega arith

  column-back : head_word column sort places % 65536 ≡ column
  column-back = rw apart (low_part column (sort + places * 256) 65536 few)

  sort_back : head_word column sort places / 65536 % 256 ≡ sort
  sort_back = rw (apart, high_part column (sort + places * 256) 65536 few) (low_part sort places 256 small)

  pub head-parts : (head_word column sort places % 2 ^ 16 ≡ column)
      × (head_word column sort places / 2 ^ 16 % 2 ^ 8 ≡ sort)
      × (head_word column sort places / 2 ^ 24 ≡ places)
  head-parts = (column-back, sort_back, high_part (column + sort * 65536) places 16777216 (omega arith))

  pub row-said : (l : List ℕ) (w : ℕ) (bs : List ℕ) → value_said l w sort ≡ bs
      → row_said l (head_word column sort places) w ≡ 102 ∷ [] ++ decimal column ++ 61 ∷ [] ++ bs ++ 10 ∷ []
  unfolding row_said
  row-said l w bs e = rw (column-back, sort_back, e) refl

-- ---- the bounds
abbrev pub SoundText : Text → Type 0
SoundText t = (t.place < 4294967296) × (t.length < 4294967296)

module _ (l : List ℕ) where
  abbrev pub SoundCharacter : Character → Type 0
  SoundCharacter (At place) = (place < length l) × (get_or l place 256 < 256)
  SoundCharacter Unreached = Unit {0}
  SoundCharacter Absent = Unit {0}

  abbrev pub SoundValue : Value → Type 0
  SoundValue (Unsigned n) = Unit {0}
  SoundValue (Signed z) = signed_in (twos z) ≡ z
  SoundValue (Real x places) = Unit {0}
  SoundValue (Factor x) = Unit {0}
  SoundValue (Words t) = SoundText t
  SoundValue (One c) = SoundCharacter c
  SoundValue (Flag b) = Unit {0}
  SoundValue Nothing = Unit {0}

  abbrev pub Sound : Row → Type 0
  Sound row = (row.0 < 65536) × SoundValue row.1

  -- ---- values
  signed-says : (z : ℤ) → signed_in (twos z) ≡ z → value_said l (twos z) 1 ≡ value_bytes l (Signed z)
  unfolding value_said
  signed-says z h = ap signed_decimal h

  text_says : (t : Text) → SoundText t → value_said l (text_word t) 3 ≡ value_bytes l (Words t)
  unfolding value_said
  text_says t h =
      let e : text_word t ≡ t.length + t.place * 4294967296 = rw (mod-eq_of_lt h.0, mod-eq_of_lt h.1) (add_comm (t.place * 4294967296) t.length) in
      rw (e, high_part t.length t.place 4294967296 h.1, low_part t.length t.place 4294967296 h.1) refl

  byte_says : (place : ℕ) → place < length l → get_or l place 256 < 256 → value_said l (get_or l place 256) 4 ≡ value_bytes l (One (At place))
  unfolding value_said within_of
  byte_says place h low =
      rw (ne_eqb (get_or l place 256) 256 (λ e. omega arith), le-leb (place + 1) (length l) (omega arith), drop-cons l place 256 h) refl

  flag-says : (b : Bool) → value_said l (flag_word b) 5 ≡ value_bytes l (Flag b)
  unfolding value_said
  flag-says true = refl
  flag-says false = refl

  character_says : (column : ℕ) (c : Character) → column < 65536 → SoundCharacter c
      → Says (row_said l) (character_words l column c)
      (cond (present (One c)) (102 ∷ [] ++ decimal column ++ 61 ∷ [] ++ value_bytes l (One c) ++ 10 ∷ []) [])
  unfolding value_said
  character_says column (At place) few h = row-said column 4 0 few (lit< tt) l (get_or l place 256) _ (byte_says place h.0 h.1)
  character_says column Unreached few h = row-said column 4 0 few (lit< tt) l 256 _ refl
  character_says column Absent few h = refl

  -- ---- rows
  value-says : (column : ℕ) (v : Value) → column < 65536 → SoundValue v
      → Says (row_said l) (value_words l column v) (cond (present v) (102 ∷ [] ++ decimal column ++ 61 ∷ [] ++ value_bytes l v ++ 10 ∷ []) [])
  unfolding value_said
  value-says column (Unsigned n) few h = row-said column 0 0 few (lit< tt) l n _ refl
  value-says column (Signed z) few h = row-said column 1 0 few (lit< tt) l (twos z) _ (signed-says z h)
  value-says column (Real x places) few h = row-said column 2 places few (lit< tt) l (to_bits binary64 x) _ refl
  value-says column (Factor x) few h = row-said column 2 0 few (lit< tt) l (to_bits binary64 x) _ refl
  value-says column (Words t) few h = row-said column 3 0 few (lit< tt) l (text_word t) _ (text_says t h)
  value-says column (One c) few h = character_says column c few h
  value-says column (Flag b) few h = row-said column 5 0 few (lit< tt) l (flag_word b) _ (flag-says b)
  value-says column Nothing few h = refl

  pub row-says : (row : Row) → Sound row → Says (row_said l) (row_words l row) (row_bytes l row)
  unfolding row_words row_bytes
  row-says row h = value-says row.0 row.1 h.0 h.1

-- ---- rows that show nothing
each-held : (f : Row → List ℕ) → ((column : ℕ) → f (column, Nothing) ≡ []) → (rows : List Row) → each f rows ≡ each f (held rows)
unfolding each
each-held f none [] = refl
each-held f none (row ∷ rest) = go row.1 (each-held f none rest)
  where
    go : (v : Value) → each f rest ≡ each f (held rest) → each f ((row.0, v) ∷ rest) ≡ each f (keep v (row.0, v) (held rest))
    go (Unsigned n) ih = rw ih refl
    go (Signed n) ih = rw ih refl
    go (Real y places) ih = rw ih refl
    go (Factor y) ih = rw ih refl
    go (Words text) ih = rw ih refl
    go (One character) ih = rw ih refl
    go (Flag b) ih = rw ih refl
    go Nothing ih = rw (none row.0) ih

pub words-held : (l : List ℕ) (rows : List Row) → rows_words l rows ≡ rows_words l (held rows)
unfolding row_words
words-held l rows = each-held (row_words l) (λ column. refl) rows

pub bytes-held : (l : List ℕ) (rows : List Row) → rows_bytes l rows ≡ rows_bytes l (held rows)
unfolding row_bytes
bytes-held l rows = each-held (row_bytes l) (λ column. refl) rows
