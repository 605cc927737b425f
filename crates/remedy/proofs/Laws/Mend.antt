-- Laws of the entry that mends a line.
--     refusal-small, lacking_small, refused-small    a refusal's numbers fit their bits
--     mends_few                   too few words
--     mends_refused, mends_done   what is answered, by what mending says
--     mends_into_one              that is one number, with one content of all bytes and words that are lent
-- Assumes nothing.
use Prim.Native.Nat.{ℕ, suc, ◌+◌, ◌-◌, ◌≤◌, ◌<◌}
use mathlib.Core.Path.{◌≡◌, refl, sym, ap, ◌∙◌}
use mathlib.Core.Bool.{Bool, true, false, cond, ◌||◌}
use mathlib.Core.List.{List, [], ◌∷◌, ◌++◌, map, append-nil}
use native.Mathlib.Omega.{arith}
use borrow.Author.Tests.{lt-ltb, le-ltb, ltb-false}
use lib.ListN.{length, take, drop, set, take-append-drop, length-drop, drop_of_length-le}
use lib.Seq.{take_all}
use lib.Dec.{ltb}
use Rattle.std.specs.Prelude.{Option, Some, None, Result, Ok, Err}
use Rattle.lexer.specs.Refusals.{excess}
use Rattle.lexitem.specs.Answer.{refusal}
use Rattle.lexitem.specs.declared.answer.Refusal.{Refusal}
use Rattle.mend.specs.Mend.{mended}
use Rattle.mend.specs.Changes.{changes_of, word_of}
use Rattle.mend.specs.Mending.{refuses, refusal_of, Mends}
use Rattle.mend.specs.declared.Mended.{Mended}
use Rattle.mend.proofs.Laws.Answers.{fits, refused_when, accepted, err_answer, ok_answer}
use Rattle.mend.proofs.Laws.Mended.{mended-length, pad_within}
use Rattle.mend.proofs.Laws.Held.{held_all}
use Rattle.packing.proofs.Laws.Packed.{Small}
use Rattle.remedy.specs.Mend.{or_few_words, refuses_for, refusal_for, told, MendsInto}

-- ---- the numbers
refusal-small : (l : List ℕ) (room : ℕ) (r : Refusal) → Some r ≡ refusal_of l room → Small r
unfolding refusal_of
refusal-small l room r = go (ltb 1024 (length l)) refl (ltb room (length (mended l)))
  where
    go : (x : Bool) → ltb 1024 (length l) ≡ x → (y : Bool)
        → Some r ≡ cond x (Some (refusal 2 1024 (excess (length l)))) (cond y (Some (refusal 8 0 (length (mended l)))) None) → Small r
    go true e y f = let g : r ≡ refusal 2 1024 (excess (length l)) = cc in rw g (omega arith, omega arith, omega arith)
    go false e true f =
        let g : r ≡ refusal 8 0 (length (mended l)) = cc in
        rw g (omega arith, omega arith, omega (arith, pad_within l (ltb-false 1024 (length l) e), mended-length l))
    go false e false f = absurd cc

pub lacking_small : (l : List ℕ) (room : ℕ) (r : Refusal) → r ≡ or_few_words (refusal_of l room) → Small r
lacking_small l room r e = go (refusal_of l room) refl e
  where
    go : (o : Option Refusal) → refusal_of l room ≡ o → r ≡ or_few_words o → Small r
    go (Some q) f g = rw g (refusal-small l room q (sym f))
    go None f g = rw g (omega arith, omega arith, omega arith)

pub refused-small : (l out ws written held : List ℕ) (r : Refusal) → Mends l out ws (Err r) written held → Small r
refused-small l out ws written held r s = refusal-small l (length out) r (err_answer l (length out) r s.answers)

-- ---- what is answered
module _ (l out words : List ℕ) where
  pub mends_few : (r : Refusal) (q : ℕ) → length words < 514 → r ≡ or_few_words (refusal_of l (length out)) → q ≡ told (Some r) → MendsInto l out words q out words
  unfolding refuses_for refusal_for
  mends_few r q h e f =
      let t = lt-ltb (length words) 514 h in
      record { answers = f ∙ rw (t, e) refl; writes = rw (t, any (refuses l (length out))) refl; holds = rw (t, any (refuses l (length out))) refl }
    where
      any : (b : Bool) → b || true ≡ true
      any true = refl
      any false = refl

-- two words, put before others
two-put : (words rest : List ℕ) (n k : ℕ) → 2 ≤ length words → set (set (take 2 words ++ rest) 0 n) 1 k ≡ n ∷ k ∷ rest
two-put [] rest n k h = absurd (omega arith)
two-put (a ∷ []) rest n k h = absurd (omega arith)
two-put (a ∷ b ∷ words) rest n k h = refl

drop-two : (words : List ℕ) (n : ℕ) → 2 ≤ length words → drop (2 + n) words ≡ drop n (drop 2 words)
drop-two [] n h = absurd (omega arith)
drop-two (a ∷ []) n h = absurd (omega arith)
drop-two (a ∷ b ∷ words) n h = let e : 2 + n ≡ suc (suc n) = omega arith in rw e refl

module _ (l out words written held : List ℕ) (m : Result Mended Refusal) (h : 514 ≤ length words) (s : Mends l out (drop 2 words) m written (drop 2 held))
    (front : take 2 held ≡ take 2 words) where
  all_held : held ≡ take 2 words ++ drop 2 held
  all_held = sym (take-append-drop 2 held) ∙ ap (λ (x : List ℕ). x ++ drop 2 held) front

  pub mends_refused : (r : Refusal) (q : ℕ) → m ≡ Err r → q ≡ told (Some r) → MendsInto l out words q written held
  unfolding refuses_for refusal_for
  mends_refused r q e f =
      let w = err_answer l (length out) r (sym e ∙ s.answers) in
      let b = refused_when l (length out) r w in
      let t = le-ltb (length words) 514 h in
      let back : drop 2 held ≡ drop 2 words = s.holds ∙ rw b refl in
      record {
        answers = f ∙ rw (t, ← w) refl;
        writes = s.writes ∙ rw b refl;
        holds = all_held ∙ rw (b, back) (take-append-drop 2 words);
      }

  pub mends_done : (x : Mended) (q : ℕ) → m ≡ Ok x → q ≡ 0 → MendsInto l out words q written (set (set held 0 x.size) 1 x.changes)
  unfolding refuses_for refusal_for
  mends_done x q e f =
      let w = ok_answer l (length out) x (sym e ∙ s.answers) in
      let b = accepted l (length out) w.0 in
      let t = le-ltb (length words) 514 h in
      let size : length (drop 2 words) ≡ length words - 2 = length-drop 2 words in
      let rest : drop 2 held ≡ map word_of (changes_of l) ++ drop (2 + length (changes_of l)) words =
      s.holds
      ∙ rw b (held_all l (drop 2 words) (fits l (length out) w.0).0 (omega arith))
      ∙ ap (λ (y : List ℕ). map word_of (changes_of l) ++ y) (sym (drop-two words (length (changes_of l)) (omega arith))) in
      record {
        answers = f ∙ rw (t, ← w.0) refl;
        writes = s.writes ∙ rw (b, t) refl;
        holds =
            ap (λ (y : List ℕ). set (set y 0 x.size) 1 x.changes) all_held ∙ two-put words (drop 2 held) x.size x.changes (omega arith)
            ∙ rw (b, t, w.1, w.2, rest) refl;
      }

-- the words behind two others, which are lent alone
pub mends_behind : (l out ws : List ℕ) (m : ℕ) (r : Result Mended Refusal) (written held : List ℕ) → 2 ≤ length ws → m ≡ length ws - 2
    → Mends l out (take m (drop 2 ws)) r written held
    → Mends l out (drop 2 ws) r written (drop 2 (take 2 ws ++ (held ++ drop m (drop 2 ws))))
    × (take 2 (take 2 ws ++ (held ++ drop m (drop 2 ws))) ≡ take 2 ws)
mends_behind l out [] m r written held h e s = absurd (omega arith)
mends_behind l out (a ∷ []) m r written held h e s = absurd (omega arith)
mends_behind l out (a ∷ b ∷ ws) m r written held h e s =
    let all : take m ws ≡ ws = take_all m ws (omega arith) in
    let none : drop m ws ≡ [] = drop_of_length-le ws {i = m} (omega arith) in
    (rw (none, append-nil held) (rw all at s), refl)

-- ---- nothing is left free
module _ {l out words written other held lent : List ℕ} {q r : ℕ} where
  pub mends_into_one : MendsInto l out words q written held → MendsInto l out words r other lent → (q ≡ r) × (written ≡ other) × (held ≡ lent)
  mends_into_one a b = (a.answers ∙ sym b.answers, a.writes ∙ sym b.writes, a.holds ∙ sym b.holds)
