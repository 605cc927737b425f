-- The steps of the code.
--     line-next, line-done        one byte further in the line that is put
--     blanks-filled               blanks in a part of the bytes
--     change-none, change-held, change_past     a change that is none, one that is held, one past the words
--     step-low, step-high, note-count           one byte further, and how many changes it makes
--     run_next, run_le, run_done                so in the runs
--     filled, noted-all                         the line and its blanks, the runs and the padding
--     noted-length, runs-most                   how many were noted
-- Assumes nothing.
use Prim.Native.Nat.{ℕ, suc, ◌+◌, ◌-◌, ◌<◌, ◌≤◌}
use mathlib.Core.Path.{◌≡◌, refl, sym, ap, ◌∙◌}
use mathlib.Core.Bool.{Bool, true, false, cond}
use mathlib.Core.List.{List, [], ◌∷◌, ◌++◌, append_assoc}
use native.Mathlib.Omega.{arith}
use native.Mathlib.Numerals.{add-one}
use borrow.Author.Tests.{eq-eqb, ne_eqb}
use lib.ListN.{length, take, drop, get_or, set, replicate, drop_of_length-le, length-drop, length-replicate}
use lib.Seq.{sets, sets-eq, drop-cons, drop-drop, set_out, length-take-le}
use lib.Dec.{ltb, eqb}
use Rattle.mend.specs.Mend.{mended_byte, questioned, padding, mended}
use Rattle.mend.specs.Changes.{changes_of, What, Change, change, runs, what_number, word, word_of, Notes, notes, note, note_all, note_by, stepped}
use Rattle.mend.proofs.Laws.Bytes.{questioned-length}
use Rattle.mend.proofs.Laws.Changes.{runs-count}

module _ (t out s : List ℕ) (i : ℕ) (v : sets out i (questioned (drop i t)) ≡ s) where
  pub line-next : i < length t → (x : ℕ) → x ≡ mended_byte (get_or t i 0) → sets (set out i x) (i + 1) (questioned (drop (i + 1) t)) ≡ s
  unfolding questioned
  line-next h x e = rw (add-one i, e) (sym (ap (λ (d : List ℕ). sets out i (questioned d)) (drop-cons t i 0 h)) ∙ v)

  pub line-done : length t ≤ i → out ≡ s
  unfolding questioned
  line-done h = sym (ap (λ (d : List ℕ). sets out i (questioned d)) (drop_of_length-le t h)) ∙ v

pub blanks-filled : (out part : List ℕ) (at n m : ℕ) → at + n ≤ length out → m ≡ n → part ≡ replicate (length (take m (drop at out))) 32
    → take at out ++ (part ++ drop m (drop at out)) ≡ sets out at (replicate n 32)
blanks-filled out part at n m h e f =
    let size : length (take m (drop at out)) ≡ n = length-take-le m (drop at out) (omega (arith, length-drop at out)) ∙ e in
    let count = length-replicate {A = ℕ} n 32 in
    let whole = rw count at (sets-eq (replicate n 32) out at (omega (arith, count))) in
    rw (f, size, e, drop-drop n at out) (sym (append_assoc (take at out) (replicate n 32) (drop (at + n) out)) ∙ sym whole)

module _ (ws : List ℕ) (k what at n : ℕ) where
  pub change-none : n ≡ 0 → notes ws k ≡ note_by (notes ws k) what at n
  unfolding note_by
  change-none e = rw (eq-eqb n 0 e) refl

  pub change-held : (n ≡ 0 → ⊥) → notes (set ws k (word what (at - n) n)) (k + 1) ≡ note_by (notes ws k) what at n
  unfolding note_by
  change-held e = rw (ne_eqb n 0 e) refl

  pub change_past : (n ≡ 0 → ⊥) → length ws ≤ k → notes ws (k + 1) ≡ note_by (notes ws k) what at n
  unfolding note_by
  change_past e h = rw (ne_eqb n 0 e, set_out ws k (word what (at - n) n) h) refl

-- what a helper notes is the change's
pub noted_by : (s : Notes) (w : What) (at n : ℕ) → note_by s (what_number w) at n ≡ note_all s (change w at n)
unfolding note_by note_all
noted_by s w at n = go (eqb n 0)
  where
    go : (x : Bool) → cond x s (note s (word (what_number w) (at - n) n))
        ≡ note_all s (cond {A = List Change} x [] (record { place = at - n; length = n; what = w } ∷ []))
    go true = refl
    go false = refl

pub noted-append : (s : Notes) (a b : List Change) → note_all s (a ++ b) ≡ note_all (note_all s a) b
unfolding note_all
noted-append s [] b = refl
noted-append s (c ∷ a) b = noted-append (note s (word_of c)) a b

module _ (t : List ℕ) (s r : Notes) (i n : ℕ) (v : note_all s (runs i n (drop i t)) ≡ r) where
  pub run_low : i < length t → ltb (get_or t i 0) 128 ≡ true → note_all (note_by s 1 i n) (runs (i + 1) 0 (drop (i + 1) t)) ≡ r
  unfolding runs
  run_low h e =
      rw (add-one i, noted_by s What.replaced i n)
      (sym (noted-append s (change What.replaced i n) (runs (suc i) 0 (drop (suc i) t)))
      ∙ sym (ap (λ (x : Bool). note_all s (cond x (change What.replaced i n ++ runs (suc i) 0 (drop (suc i) t)) (runs (suc i) (suc n) (drop (suc i) t)))) e)
      ∙ sym (ap (λ (d : List ℕ). note_all s (runs i n d)) (drop-cons t i 0 h))
      ∙ v)

  pub run_high : i < length t → ltb (get_or t i 0) 128 ≡ false → note_all s (runs (i + 1) (n + 1) (drop (i + 1) t)) ≡ r
  unfolding runs
  run_high h e =
      rw (add-one i, add-one n)
      (sym (ap (λ (x : Bool). note_all s (cond x (change What.replaced i n ++ runs (suc i) 0 (drop (suc i) t)) (runs (suc i) (suc n) (drop (suc i) t)))) e)
      ∙ sym (ap (λ (d : List ℕ). note_all s (runs i n d)) (drop-cons t i 0 h))
      ∙ v)

  pub run_done : length t ≡ i → note_by s 1 (length t) n ≡ r
  unfolding runs
  run_done h =
      rw h (noted_by s What.replaced i n ∙ sym (ap (λ (d : List ℕ). note_all s (runs i n d)) (drop_of_length-le t (omega arith))) ∙ v)

pub note-count : (ws vs : List ℕ) (r k what at n : ℕ) → notes ws r ≡ note_by (notes vs k) what at n → r ≤ k + 1
unfolding note_by
note-count ws vs r k what at n e = go (eqb n 0) e
  where
    go : (x : Bool) → notes ws r ≡ cond x (notes vs k) (note (notes vs k) (word what (at - n) n)) → r ≤ k + 1
    go true q = omega (arith, ap (λ (z : Notes). z.count) q)
    go false q = omega (arith, ap (λ (z : Notes). z.count) q)

pub step-low : (s : Notes) (at n b : ℕ) → ltb b 128 ≡ true → note_by s 1 at n ≡ stepped s at n b
unfolding stepped
step-low s at n b e = rw e refl

pub step-high : (s : Notes) (at n b : ℕ) → ltb b 128 ≡ false → s ≡ stepped s at n b
unfolding stepped
step-high s at n b e = rw e refl

-- a turn of the loop over the runs
pub run_next : (t : List ℕ) (s r z : Notes) (i n m : ℕ) → note_all s (runs i n (drop i t)) ≡ r → i < length t
    → m ≡ cond (ltb (get_or t i 0) 128) 0 (n + 1) → z ≡ stepped s i n (get_or t i 0) → note_all z (runs (i + 1) m (drop (i + 1) t)) ≡ r
unfolding stepped
run_next t s r z i n m v h e f = go (ltb (get_or t i 0) 128) refl e f
  where
    go : (x : Bool) → ltb (get_or t i 0) 128 ≡ x → m ≡ cond x 0 (n + 1) → z ≡ cond x (note_by s 1 i n) s
        → note_all z (runs (i + 1) m (drop (i + 1) t)) ≡ r
    go true p e f = rw (e, f) (run_low t s r i n v h p)
    go false p e f = rw (e, f) (run_high t s r i n v h p)

pub run_le : (x : Bool) (m n i : ℕ) → m ≡ cond x 0 (n + 1) → n ≤ i → m ≤ i + 1
run_le true m n i e h = omega arith
run_le false m n i e h = omega arith

-- ---- the whole
pub sets_append : (o : List ℕ) (i : ℕ) (a b : List ℕ) → sets o i (a ++ b) ≡ sets (sets o i a) (i + length a) b
sets_append o i [] b = let e : i + 0 ≡ i = omega arith in rw e refl
sets_append o i (x ∷ a) b =
    let e : i + suc (length a) ≡ suc i + length a = omega arith in
    rw e (sets_append (set o i x) (suc i) a b)

pub filled : (l out x y : List ℕ) (pad : ℕ) → pad ≡ padding l → x ≡ sets out 0 (questioned l) → y ≡ sets x (length l) (replicate pad 32)
    → y ≡ sets out 0 (mended l)
unfolding mended
filled l out x y pad p e f =
    let n : length l ≡ 0 + length (questioned l) = omega (arith, questioned-length l) in
    f ∙ rw (p, e) (ap (λ (k : ℕ). sets (sets out 0 (questioned l)) k (replicate (padding l) 32)) n
    ∙ sym (sets_append out 0 (questioned l) (replicate (padding l) 32)))

pub noted-all : (l ws xs ys : List ℕ) (r k pad : ℕ) → pad ≡ padding l → notes xs k ≡ note_all (notes ws 0) (runs 0 0 l)
    → notes ys r ≡ note_by (notes xs k) 2 (length l + pad) pad → notes ys r ≡ note_all (notes ws 0) (changes_of l)
unfolding changes_of
noted-all l ws xs ys r k pad p e f =
    f
    ∙ rw (e, p) (noted_by (note_all (notes ws 0) (runs 0 0 l)) What.padded (length l + padding l) (padding l)
    ∙ sym (noted-append (notes ws 0) (runs 0 0 l) (change What.padded (length l + padding l) (padding l))))

pub noted-count : (s : Notes) (cs : List Change) → (note_all s cs).count ≡ s.count + length cs
unfolding note_all
noted-count s [] = omega arith
noted-count s (c ∷ cs) = omega (arith, noted-count (note s (word_of c)) cs)

-- so many were noted
pub noted-length : (ws xs : List ℕ) (k : ℕ) (cs : List Change) → notes xs k ≡ note_all (notes ws 0) cs → k ≡ length cs
noted-length ws xs k cs e = omega (arith, ap (λ (z : Notes). z.count) e, noted-count (notes ws 0) cs)

pub runs-most : (ws xs : List ℕ) (k : ℕ) (t : List ℕ) → length t ≤ 1024 → notes xs k ≡ note_all (notes ws 0) (runs 0 0 t) → k ≤ 1024
runs-most ws xs k t h e = omega (arith, noted-length ws xs k (runs 0 0 t) e, runs-count 0 0 t)
