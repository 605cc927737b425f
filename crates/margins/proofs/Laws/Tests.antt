-- What the tests of the refusals look at, one by one.
--     kind-same         lines of one length and the same first six bytes have one kind
--     plain-low         a line of bytes below 128 has none of 128 or more
--     long_same         refusal 5 looks at the length, and at what stands from column 11 on
--     cut-same, missing-same    4 and 6 look at the length alone
-- Assumes nothing.
use Prim.Native.Nat.{ℕ, suc, ◌+◌, ◌<◌, ◌≤◌}
use mathlib.Core.Path.{◌≡◌, refl, sym, ap, ◌∙◌}
use mathlib.Core.Bool.{Bool, true, false, cond, ◌&&◌, ◌||◌}
use mathlib.Core.List.{List, [], ◌∷◌, ◌++◌}
use native.Mathlib.Omega.{arith}
use borrow.Author.Tests.{lt-ltb, lt-leb, ltb-false, eqb-true, eqb-false, ne_eqb}
use lib.ListN.{length, take, drop, length-take, take-append-drop}
use lib.Seq.{take_all}
use lib.Dec.{ltb, leb, eqb}
use Rattle.number.specs.Trim.{white, kept}
use Rattle.field.specs.Table.Entry.{u, known, t-end}
use Rattle.kind.specs.Kind.{kind_of}
use Rattle.kind.specs.declared.Kind.{Kind}
use Rattle.kind.specs.declared.Kind.TheVariants.{Empty, Header, Remark, Atom, Hetatm, Anisou, Cryst1, Scale, Origx, Mtrix, Model, Master, Dbref, Dbref1, Dbref2, Seqres, Seqadv, Modres, Ssbond, Endmdl, Ter, End}
use Rattle.line.specs.Columns.{rest_of}
use Rattle.line.specs.declared.options.Mode.{Mode}
use Rattle.remark.specs.Remark.{number_at, text_from}
use Rattle.lexitem.specs.Describe.{describe, bound_of, table_of}
use Rattle.lexitem.specs.declared.bound.Bound.{Bound}
use Rattle.lexitem.specs.declared.bound.Bound.TheVariants as bound
use Rattle.lexer.specs.Refusals.{plain, header_cut, remark_long, missing}
use Rattle.margins.specs.Taken.{takes}
use Rattle.margins.specs.Differ.{Low}
use Rattle.margins.proofs.Laws.Parts.{rest-same}
use Rattle.margins.proofs.Laws.Entries.{or_left, or_right, AgreeOn}

-- ---- the kind: lines of six bytes and less are the same
module _ (l m : List ℕ) (q : length l ≡ length m) (f : take 6 l ≡ take 6 m) where
  pub kind-same : (atoms : Bool) (mode : Mode) → kind_of atoms mode l ≡ kind_of atoms mode m
  unfolding kind_of
  kind-same atoms mode = go (ltb 6 (length l)) refl
    where
      go : (b : Bool) → ltb 6 (length l) ≡ b → kind_of atoms mode l ≡ kind_of atoms mode m
      go true e =
          let d : ltb 6 (length m) ≡ true = rw q at e in
          rw (e, d, f) refl
      go false e =
          let h = ltb-false 6 (length l) e in
          let s : l ≡ m = sym (take_all 6 l h) ∙ f ∙ take_all 6 m (omega arith) in
          ap (kind_of atoms mode) s

-- ---- refusal 3: no line with low bytes has it
pub plain-low : (l : List ℕ) → Low l → plain l ≡ length l
unfolding plain
plain-low [] h = refl
plain-low (b ∷ t) h = rw (lt-ltb b 128 (h 0), plain-low t (λ column. h (suc column))) refl

-- ---- refusal 5: whether an end-trimmed length is 80 or more is told by what stands from 11 on
kept-behind : (a b : List ℕ) → 0 < kept b → kept (a ++ b) ≡ length a + kept b
unfolding kept
kept-behind [] b h = omega arith
kept-behind (x ∷ a) b h =
    let ih = kept-behind a b h in
    let n : kept (a ++ b) ≡ 0 → ⊥ = λ z. omega arith in
    rw (ne_eqb (kept (a ++ b)) 0 n) (never (white x) ∙ omega arith)
  where
    never : (w : Bool) → cond (w && false) 0 (suc (kept (a ++ b))) ≡ suc (kept (a ++ b))
    never true = refl
    never false = refl

kept-before : (a b : List ℕ) → kept b ≡ 0 → kept (a ++ b) ≤ length a
unfolding kept
kept-before [] b h = omega arith
kept-before (x ∷ a) b h = go (white x && eqb (kept (a ++ b)) 0) (kept-before a b h)
  where
    go : (w : Bool) → kept (a ++ b) ≤ length a → cond w 0 (suc (kept (a ++ b))) ≤ suc (length a)
    go true i = omega arith
    go false i = omega arith

kept-told : (l m : List ℕ) → length l ≡ length m → drop 11 l ≡ drop 11 m → leb 80 (kept l) ≡ leb 80 (kept m)
kept-told l m q d = go (eqb (kept (drop 11 l)) 0) refl
  where
    go : (b : Bool) → eqb (kept (drop 11 l)) 0 ≡ b → leb 80 (kept l) ≡ leb 80 (kept m)
    go true e =
        let z = eqb-true (kept (drop 11 l)) 0 e in
        let x : kept l ≤ length (take 11 l) = rw take-append-drop at (kept-before (take 11 l) (drop 11 l) z) in
        let y : kept m ≤ length (take 11 m) = rw take-append-drop at (kept-before (take 11 m) (drop 11 m) (rw d at z)) in
        let s = length-take 11 l in
        let t = length-take 11 m in
        lt-leb 80 (kept l) (omega arith) ∙ sym (lt-leb 80 (kept m) (omega arith))
    go false e =
        let z = eqb-false (kept (drop 11 l)) 0 e in
        let h : 0 < kept (drop 11 l) = omega arith in
        let x : kept l ≡ length (take 11 l) + kept (drop 11 l) = rw take-append-drop at (kept-behind (take 11 l) (drop 11 l) h) in
        let y : kept m ≡ length (take 11 m) + kept (drop 11 m) = rw take-append-drop at (kept-behind (take 11 m) (drop 11 m) (rw d at h)) in
        let s = length-take 11 l in
        let t = length-take 11 m in
        let u = ap kept d in
        let v : kept l ≡ kept m = omega arith in
        ap (leb 80) v

-- the third of three that is so
third : (a b c : Bool) → c ≡ true → a || (b || (c || false)) ≡ true
third a b c e = or_right a (b || (c || false)) (or_right b (c || false) (or_left c false e))

module _ (l m : List ℕ) (q : length l ≡ length m) where
  pub long_same : (k : Kind) (mode : Mode) (loose : Bool) → AgreeOn l m (table_of mode k ((describe k).part l))
      → remark_long (bound_of k) l loose ≡ remark_long (bound_of k) m loose
  unfolding rest_of
  long_same Remark mode loose h =
      let s =
      rest-same l m q text_from (λ n p. h n (third (takes (u number_at) n) (takes (known number_at) n) (takes (t-end text_from) n) p)) in
      rw (q, kept-told l m q s) refl
  long_same Empty mode loose h = refl
  long_same Header mode loose h = refl
  long_same Atom mode loose h = refl
  long_same Hetatm mode loose h = refl
  long_same Anisou mode loose h = refl
  long_same Cryst1 mode loose h = refl
  long_same (Scale row) mode loose h = refl
  long_same (Origx row) mode loose h = refl
  long_same (Mtrix row) mode loose h = refl
  long_same Model mode loose h = refl
  long_same Master mode loose h = refl
  long_same Dbref mode loose h = refl
  long_same Dbref1 mode loose h = refl
  long_same Dbref2 mode loose h = refl
  long_same Seqres mode loose h = refl
  long_same Seqadv mode loose h = refl
  long_same Modres mode loose h = refl
  long_same Ssbond mode loose h = refl
  long_same Endmdl mode loose h = refl
  long_same Ter mode loose h = refl
  long_same End mode loose h = refl

  -- the other two bounds look at the length alone
  pub cut-same : (b : Bound) → header_cut b l ≡ header_cut b m
  cut-same bound.Header = rw q refl
  cut-same bound.Remark = refl
  cut-same (bound.Least n) = refl
  cut-same bound.Free = refl

  pub missing-same : (b : Bound) → missing b l ≡ missing b m
  missing-same bound.Header = refl
  missing-same bound.Remark = refl
  missing-same (bound.Least n) = rw q refl
  missing-same bound.Free = refl
