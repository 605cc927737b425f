-- A line as it goes on, and its rows, by the code's two ends.
--     repairs_over      it has over 1,024 bytes
--     repairs_mended    it is mended
--     count-few         its changes have room in 512 words
--     repairs_few, repairs_all    with too little room for the line, and with enough
-- Assumes nothing.
use Prim.Native.Nat.{ℕ, suc, ◌^◌, ◌<◌, ◌≤◌}
use mathlib.Core.Path.{◌≡◌, refl, sym, ap, ◌∙◌}
use mathlib.Core.Bool.{Bool, true, false, ◌||◌}
use mathlib.Core.List.{List, [], ◌∷◌, ◌++◌, map}
use native.Mathlib.Omega.{arith}
use borrow.Author.Tests.{ltb-false, lt-ltb, le-ltb}
use lib.ListN.{length, take, drop}
use lib.Seq.{sets, take_at}
use lib.Dec.{ltb}
use Rattle.std.specs.Prelude.{Result, Ok, Err}
use Rattle.lexitem.specs.declared.answer.Refusal.{Refusal}
use Rattle.mend.specs.Mend.{mended}
use Rattle.mend.specs.Changes.{Change, changes_of, word_of}
use Rattle.mend.specs.Mending.{refuses, Mends}
use Rattle.mend.specs.declared.Mended.{Mended}
use Rattle.mend.proofs.Laws.Answers.{refused_when, accepted, err_answer, ok_answer}
use Rattle.mend.proofs.Laws.Mended.{mended-length, pad_within}
use Rattle.mend.proofs.Laws.Changes.{changes_few}
use Rattle.mend.proofs.Laws.Held.{held_all}
use Rattle.page.specs.Page.{page, put}
use Rattle.page.proofs.Laws.Page.{put_count, put_front}
use Rattle.repair.specs.Rows.{word_rows, cut_rows, over_row}
use Rattle.repair.specs.Repair.{line_for, rows_for, RepairsAs, Repairs}
use Rattle.repair.specs.declared.Repaired.{Repaired}
use Rattle.repair.proofs.Laws.Rows.{rows_told}

-- bytes at the front are a page from 0 on
front : (out text written : List ℕ) (n : ℕ) → length out < 2 ^ 64 → length text ≤ length out → written ≡ text ++ drop (length text) out → n ≡ length text
    → page written n ≡ put (page out 0) text
front out text written n small fits w e =
    rw (w, e, ← put_front out text small fits, ← put_count out text (omega arith)) refl

map-size : (cs : List Change) → length (map word_of cs) ≡ length cs
map-size [] = refl
map-size (c ∷ cs) = ap suc (map-size cs)

-- ---- the line is put as it stands, or is the mended one
module _ (l : List ℕ) (number : ℕ) (out lent : List ℕ) (room : 1024 ≤ length out) where
  -- with so much room only a line of over 1,024 bytes is refused
  refuses_over : refuses l (length out) ≡ ltb 1024 (length l)
  unfolding refuses
  refuses_over = go (ltb 1024 (length l)) refl
    where
      go : (x : Bool) → ltb 1024 (length l) ≡ x → x || ltb (length out) (length (mended l)) ≡ x
      go true e = refl
      go false e =
          le-ltb (length out) (length (mended l)) (omega (arith, mended-length l, pad_within l (ltb-false 1024 (length l) e)))

  module _ (words written held : List ℕ) (m : Result Mended Refusal) (s : Mends l out words m written held) where
    over : (r : Refusal) → m ≡ Err r → (ltb 1024 (length l) ≡ true) × (written ≡ out)
    over r e =
        let f = refused_when l (length out) r (err_answer l (length out) r (sym e ∙ s.answers)) in
        (sym refuses_over ∙ f, s.writes ∙ rw f refl)

    -- what a refused line's page holds
    pub repairs_over : (r : Refusal) (put-to told : List ℕ) (n k : ℕ) → m ≡ Err r → page put-to n ≡ put (page written 0) l
        → page told k ≡ put (page lent 0) (over_row number)
        → RepairsAs (line_for l) (rows_for number l) out lent put-to told (record { n = n; rows = k })
    unfolding line_for rows_for
    repairs_over r put-to told n k e p q =
        let w = over r e in
        record { puts = rw w.0 (rw w.1 at p); tells = rw w.0 q }

    done : (x : Mended) → m ≡ Ok x
        → (ltb 1024 (length l) ≡ false) × (written ≡ mended l ++ drop (length (mended l)) out) × (x.size ≡ length (mended l)) × (x.changes ≡ length (changes_of l))
        × (held ≡ sets words 0 (map word_of (changes_of l)))
    done x e =
        let w = ok_answer l (length out) x (sym e ∙ s.answers) in
        let f = accepted l (length out) w.0 in
        (sym refuses_over ∙ f, s.writes ∙ rw f refl, w.1, w.2, s.holds ∙ rw f refl)

    pub count-few : (x : Mended) → m ≡ Ok x → 512 ≤ length words → x.changes ≤ 512
    count-few x e h = let w = done x e in omega (arith, w.3, changes_few l (ltb-false 1024 (length l) w.0))

    -- the words that were counted are those of the changes
    held-words : (x : Mended) → m ≡ Ok x → 512 ≤ length words → take x.changes held ≡ map word_of (changes_of l)
    held-words x e h =
        let w = done x e in
        let short = ltb-false 1024 (length l) w.0 in
        rw (w.4, held_all l words short h) (take_at (map word_of (changes_of l)) (drop (length (changes_of l)) words) x.changes (map-size (changes_of l) ∙ sym w.3))

    pub repairs_mended : (x : Mended) (rows : ℕ) (told : List ℕ) → m ≡ Ok x → 512 ≤ length words → length out < 2 ^ 64
        → page told rows ≡ put (page lent 0) (word_rows number (take x.changes held) ++ cut_rows number l)
        → RepairsAs (line_for l) (rows_for number l) out lent written told (record { n = x.size; rows = rows })
    unfolding line_for rows_for
    repairs_mended x rows told e h small q =
        let w = done x e in
        let short = ltb-false 1024 (length l) w.0 in
        let fits : length (mended l) ≤ length out = omega (arith, mended-length l, pad_within l short) in
        record {
          puts = rw w.0 (front out (mended l) written x.size small fits w.1 w.2);
          tells = rw w.0 (rw (held-words x e h, rows_told number l short) at q);
        }

-- ---- by the room for the line
pub repairs_few : (l : List ℕ) (number : ℕ) (out lent : List ℕ) → length out < 1024 → Repairs l number out lent out lent (record { n = 0; rows = 0 })
unfolding put
repairs_few l number out lent h = let t = lt-ltb (length out) 1024 h in record { puts = rw t refl; tells = rw t refl }

pub repairs_all : (l : List ℕ) (number : ℕ) (out lent written told : List ℕ) (r : Repaired) → 1024 ≤ length out
    → RepairsAs (line_for l) (rows_for number l) out lent written told r → Repairs l number out lent written told r
repairs_all l number out lent written told r h s =
    let t = le-ltb (length out) 1024 h in record { puts = rw t s.puts; tells = rw t s.tells }
