-- What is put for a line that was held is the report of its piece's line.
--     holds-ended, holds-last     of the line that an LF ends, and of the last one
-- Assumes nothing.
use Prim.Native.Nat.{ℕ, suc, ◌-◌, ◌≤◌, ◌<◌, min}
use mathlib.Core.Path.{◌≡◌, refl, sym}
use mathlib.Core.Bool.{Bool, true, false, cond}
use mathlib.Core.List.{List, [], ◌∷◌, append-nil}
use native.Mathlib.Omega.{arith}
use borrow.Author.Tests.{ltb-true, ltb-false, lt-ltb, le-ltb, eq-eqb, ne_eqb, eqb-true}
use lib.ListN.{length, take}
use lib.Seq.{take-length, length-take-le}
use lib.Dec.{eqb, ltb}
use Rattle.std.specs.Prelude.{Err}
use Rattle.carry.specs.Held.{most_kept, most_count, State, ended_size}
use Rattle.carry.specs.Pieces.{ended_line, last_line}
use Rattle.carry.proofs.Laws.Held.{ends_cr, ended-take, Holds}
use Rattle.lexer.specs.Lexed.{lexed}
use Rattle.lexer.specs.Refusals.{excess}
use Rattle.lexitem.specs.Answer.{refusal}
use Rattle.parts.specs.Held.{over_rows, held_text, ended_text, last_text}
use Rattle.report.specs.Fill.{reports_from}
use Rattle.report.specs.Report.{report, report_of, input_of}

-- a line over 1,024 bytes is refused by its length alone
over-refused : (n : ℕ) (l : List ℕ) → most_kept < length l → (lexed (input_of n l)).outcome ≡ Err (refusal 2 1024 (excess (length l)))
unfolding lexed
over-refused n l h = rw (lt-ltb most_kept (length l) h) refl

over-report : (n : ℕ) (l : List ℕ) → most_kept < length l → report n l ≡ over_rows n (length l)
unfolding report report_of
over-report n l h = rw (over-refused n l h) refl

-- so many bytes of a piece, and a count that agrees with theirs as far as an excess goes
held-report : (n size count : ℕ) (p : List ℕ) (s : State) → Holds p n s → size ≤ length p
    → min count 4294968319 ≡ min size 4294968319 → held_text s.held.number count s.kept ≡ report n (take size p)
unfolding held_text
held-report n size count p s h l e = rw h.number (go (ltb most_kept size) refl)
  where
    go : (c : Bool) → ltb most_kept size ≡ c
        → cond (ltb most_kept count) (over_rows n count) (report n (take count s.kept)) ≡ report n (take size p)
    go true c =
        let a = ltb-true most_kept size c in
        let many = length-take-le size p l in
        let m : excess count ≡ excess size = omega arith in
        rw (lt-ltb most_kept count (omega arith), m) (sym (rw many at (over-report n (take size p) (omega arith))))
    go false c =
        let a = ltb-false most_kept size c in
        let m : count ≡ size = omega arith in
        rw (m, le-ltb most_kept size a, h.bytes size l a) refl

-- how many bytes are left of a piece that an LF ends, and how many are counted
ended-agrees : (n m : ℕ) (c : Bool) → m ≡ min n most_count
    → min (cond (eqb m 0) 0 (cond c (m - 1) m)) 4294968319 ≡ min (cond c (n - 1) n) 4294968319
ended-agrees n m c e = go (eqb m 0) refl c
  where
    go : (z : Bool) → eqb m 0 ≡ z → (c : Bool) → min (cond z 0 (cond c (m - 1) m)) 4294968319 ≡ min (cond c (n - 1) n) 4294968319
    go true f true = let g = eqb-true m 0 f in omega arith
    go true f false = let g = eqb-true m 0 f in omega arith
    go false f true = omega arith
    go false f false = omega arith

pub holds-ended : (n : ℕ) (p : List ℕ) (s : State) → Holds p n s → ended_text s ≡ report n (ended_line p)
holds-ended n p s h =
    rw (ended-take p)
    (held-report n (cond (ends_cr p) (length p - 1) (length p)) (ended_size s.held) p s h (le (ends_cr p))
    (rw h.cr (ended-agrees (length p) s.held.total (ends_cr p) h.count)))
  where
    le : (c : Bool) → cond c (length p - 1) (length p) ≤ length p
    le true = omega arith
    le false = omega arith

pub holds-last : (n : ℕ) (p : List ℕ) (s : State) → Holds p n s → last_text s ≡ reports_from n (last_line p)
unfolding last_text reports_from
holds-last n [] s h = let c = h.count in rw (eq-eqb s.held.total 0 (omega arith)) refl
holds-last n (b ∷ t) s h =
    let c = h.count in
    let some : s.held.total ≡ 0 → ⊥ = λ z. omega arith in
    rw (ne_eqb s.held.total 0 some, held-report n (suc (length t)) s.held.total (b ∷ t) s h (omega arith) (omega arith), take-length t)
    (sym (append-nil (report n (b ∷ t))))
