-- The walker's lines of bytes that come behind a piece.
--     texts-append, taken-append     stretches behind stretches
--     passed-split, left_split       a part in two is two parts
--     Free                           a piece has no LF
--     piece_last, piece_ended        a piece alone is the last line, and one that an LF ends is the first
--     stretches-fed, lines-fed       the lines of a piece with bytes behind it: those that they finish, and the last piece's
--     left-length                    what is left is some of what came
--     texts-of, taken_of             the stretches of a file are its lines, and take up no more bytes than it has
-- Assumes nothing.
use Prim.Native.Nat.{ℕ, suc, ◌+◌, ◌≤◌}
use mathlib.Core.Path.{◌≡◌, refl, sym, ap, ◌∙◌}
use mathlib.Core.Bool.{Bool, true, false, cond, ◌&&◌}
use mathlib.Core.List.{List, [], ◌∷◌, ◌++◌, append-nil}
use native.Mathlib.Omega.{arith}
use borrow.Author.Tests.{eqb-true}
use lib.ListN.{length, drop, length-append}
use lib.Seq.{append_snoc}
use lib.Dec.{eqb}
use Rattle.walker.specs.Lines.{lines_of, line_taken, longer, lf_first}
use Rattle.carry.specs.Pieces.{Stretch, texts, taken_by, stretches, stretches_of, ended_line, ended_stretch, last_stretch, last_line, passed, finished, left}

-- ---- stretches behind stretches
pub texts-append : (a b : List Stretch) → texts (a ++ b) ≡ texts a ++ texts b
texts-append [] b = refl
texts-append (s ∷ a) b = ap (λ (ls : List (List ℕ)). s.text ∷ ls) (texts-append a b)

pub taken-append : (a b : List Stretch) → taken_by (a ++ b) ≡ taken_by a + taken_by b
unfolding taken_by
taken-append [] b = omega arith
taken-append (s ∷ a) b = let e = taken-append a b in omega arith

-- ---- a part in two
pub passed-split : (p a b : List ℕ) → passed p (a ++ b) ≡ passed p a ++ passed (left p a) b
unfolding passed left
passed-split p [] b = refl
passed-split p (x ∷ a) b = go (eqb x 10) (passed-split [] a b) (passed-split (p ++ x ∷ []) a b)
  where
    go : (c : Bool) → passed [] (a ++ b) ≡ passed [] a ++ passed (left [] a) b
        → passed (p ++ x ∷ []) (a ++ b) ≡ passed (p ++ x ∷ []) a ++ passed (left (p ++ x ∷ []) a) b
        → cond c (ended_stretch p ∷ passed [] (a ++ b)) (passed (p ++ x ∷ []) (a ++ b))
        ≡ cond c (ended_stretch p ∷ passed [] a) (passed (p ++ x ∷ []) a) ++ passed (cond c (left [] a) (left (p ++ x ∷ []) a)) b
    go true e f = ap (λ (ss : List Stretch). ended_stretch p ∷ ss) e
    go false e f = f

pub finished-split : (p a b : List ℕ) → finished p (a ++ b) ≡ finished p a ++ finished (left p a) b
finished-split p a b = ap texts (passed-split p a b) ∙ texts-append (passed p a) (passed (left p a) b)

pub left_split : (p a b : List ℕ) → left p (a ++ b) ≡ left (left p a) b
unfolding left
left_split p [] b = refl
left_split p (x ∷ a) b = go (eqb x 10) (left_split [] a b) (left_split (p ++ x ∷ []) a b)
  where
    go : (c : Bool) → left [] (a ++ b) ≡ left (left [] a) b → left (p ++ x ∷ []) (a ++ b) ≡ left (left (p ++ x ∷ []) a) b
        → cond c (left [] (a ++ b)) (left (p ++ x ∷ []) (a ++ b)) ≡ left (cond c (left [] a) (left (p ++ x ∷ []) a)) b
    go true e f = e
    go false e f = f

pub left-length : (p t : List ℕ) → length (left p t) ≤ length p + length t
unfolding left
left-length p [] = omega arith
left-length p (b ∷ t) = go (eqb b 10) (left-length [] t) (left-length (p ++ b ∷ []) t)
  where
    go : (c : Bool) → length (left [] t) ≤ 0 + length t → length (left (p ++ b ∷ []) t) ≤ length (p ++ b ∷ []) + length t
        → length (cond c (left [] t) (left (p ++ b ∷ []) t)) ≤ length p + suc (length t)
    go true h k = omega arith
    go false h k = omega (arith, length-append p (b ∷ []))

-- ---- a piece has no LF
abbrev pub Free : List ℕ → Type 0
Free [] = Unit {0}
Free (b ∷ t) = (eqb b 10 ≡ false) × Free t

free_snoc : (p : List ℕ) (b : ℕ) → Free p → eqb b 10 ≡ false → Free (p ++ b ∷ [])
free_snoc [] b f e = (e, tt)
free_snoc (x ∷ p) b f e = (f.0, free_snoc p b f.1 e)

-- no CR just before LF where what follows is no LF
no-cr : (x : Bool) (a b : List (List ℕ)) → cond (x && false) a b ≡ b
no-cr true a b = refl
no-cr false a b = refl

cr-lf : (x : Bool) (a b : List (List ℕ)) → cond (x && true) a b ≡ cond x a b
cr-lf true a b = refl
cr-lf false a b = refl

-- a piece alone is the last line
pub piece_last : (p : List ℕ) → Free p → lines_of p ≡ last_line p
unfolding lines_of longer lf_first
piece_last [] f = refl
piece_last (b ∷ []) f = rw f.0 (no-cr (eqb b 13) [] ((b ∷ []) ∷ []))
piece_last (b ∷ c ∷ t) f = rw (f.0, piece_last (c ∷ t) f.1, f.1.0) (no-cr (eqb b 13) _ _)

-- a piece that an LF ends is the first line
pub piece_ended : (p t : List ℕ) → Free p → lines_of (p ++ 10 ∷ t) ≡ ended_line p ∷ lines_of t
unfolding lines_of longer lf_first ended_line
piece_ended [] t f = refl
piece_ended (b ∷ []) t f = rw f.0 (cr-lf (eqb b 13) _ _ ∙ go (eqb b 13))
  where
    go : (x : Bool) → cond x ([] ∷ lines_of t) ((b ∷ []) ∷ lines_of t) ≡ cond x [] (b ∷ []) ∷ lines_of t
    go true = refl
    go false = refl
piece_ended (b ∷ c ∷ p) t f = rw (f.0, piece_ended (c ∷ p) t f.1, f.1.0) (no-cr (eqb b 13) _ _)

-- what they take up
taken-last : (p : List ℕ) → Free p → line_taken p ≡ length p
unfolding line_taken
taken-last [] f = refl
taken-last (b ∷ t) f = rw f.0 (ap suc (taken-last t f.1))

taken-ended : (p t : List ℕ) → Free p → line_taken (p ++ 10 ∷ t) ≡ suc (length p)
unfolding line_taken
taken-ended [] t f = refl
taken-ended (b ∷ p) t f = rw f.0 (ap suc (taken-ended p t f.1))

behind-ended : (p t : List ℕ) → drop (suc (length p)) (p ++ 10 ∷ t) ≡ t
behind-ended [] t = refl
behind-ended (b ∷ p) t = behind-ended p t

stretch-last : (p : List ℕ) → Free p → stretches_of p ≡ last_stretch p
unfolding stretches_of
stretch-last [] f = rw (piece_last [] f) refl
stretch-last (b ∷ t) f = rw (piece_last (b ∷ t) f, taken-last (b ∷ t) f) refl

stretch-ended : (p t : List ℕ) → Free p → stretches_of (p ++ 10 ∷ t) ≡ ended_stretch p ∷ stretches_of t
unfolding stretches_of
stretch-ended p t f = rw (piece_ended p t f, taken-ended p t f, behind-ended p t) refl

-- ---- the lines of the whole
pub stretches-fed : (p t : List ℕ) → Free p → stretches_of (p ++ t) ≡ passed p t ++ last_stretch (left p t)
unfolding passed left
stretches-fed p [] f = rw (append-nil p) (stretch-last p f)
stretches-fed p (b ∷ t) f = go (eqb b 10) refl (stretches-fed [] t tt) (stretches-fed (p ++ b ∷ []) t)
  where
    go : (c : Bool) → eqb b 10 ≡ c → stretches_of t ≡ passed [] t ++ last_stretch (left [] t)
        → (Free (p ++ b ∷ []) → stretches_of ((p ++ b ∷ []) ++ t) ≡ passed (p ++ b ∷ []) t ++ last_stretch (left (p ++ b ∷ []) t))
        → stretches_of (p ++ b ∷ t)
        ≡ cond c (ended_stretch p ∷ passed [] t) (passed (p ++ b ∷ []) t) ++ last_stretch (cond c (left [] t) (left (p ++ b ∷ []) t))
    go true c e g = rw (eqb-true b 10 c) (stretch-ended p t f ∙ ap (λ (ss : List Stretch). ended_stretch p ∷ ss) e)
    go false c e g = ap stretches_of (sym (append_snoc p b t)) ∙ g (free_snoc p b f c)

texts-stretches : (f : List ℕ) (ls : List (List ℕ)) → texts (stretches f ls) ≡ ls
texts-stretches f [] = refl
texts-stretches f (l ∷ ls) = ap (λ (rest : List (List ℕ)). l ∷ rest) (texts-stretches (drop (line_taken f) f) ls)

pub texts-of : (f : List ℕ) → texts (stretches_of f) ≡ lines_of f
unfolding stretches_of
texts-of f = texts-stretches f (lines_of f)

pub lines-fed : (p t : List ℕ) → Free p → lines_of (p ++ t) ≡ finished p t ++ last_line (left p t)
lines-fed p t f = sym (texts-of (p ++ t)) ∙ ap texts (stretches-fed p t f) ∙ texts-append (passed p t) (last_stretch (left p t))

-- ---- what the lines of a file take up
passed-taken : (p t : List ℕ) → taken_by (passed p t ++ last_stretch (left p t)) ≡ length p + length t
unfolding passed left taken_by
passed-taken [] [] = refl
passed-taken (b ∷ p) [] = omega arith
passed-taken p (b ∷ t) = go (eqb b 10) (passed-taken [] t) (passed-taken (p ++ b ∷ []) t)
  where
    go : (c : Bool) → taken_by (passed [] t ++ last_stretch (left [] t)) ≡ 0 + length t
        → taken_by (passed (p ++ b ∷ []) t ++ last_stretch (left (p ++ b ∷ []) t)) ≡ length (p ++ b ∷ []) + length t
        → taken_by (cond c (ended_stretch p ∷ passed [] t) (passed (p ++ b ∷ []) t) ++ last_stretch (cond c (left [] t) (left (p ++ b ∷ []) t)))
        ≡ length p + suc (length t)
    go true h k = omega arith
    go false h k = omega (arith, k, length-append p (b ∷ []))

pub taken_of : (f : List ℕ) → taken_by (stretches_of f) ≡ length f
taken_of f = let all = ap taken_by (stretches-fed [] f tt) ∙ passed-taken [] f in omega arith
