-- `lexer::has_high` meets its contract. The loop's invariant: a high byte was seen, or each byte that was looked at is low.
-- Assumes nothing.
use Prim.Native.Nat.{ℕ, ◌+◌, ◌-◌, ◌≤◌, ◌<◌}
use mathlib.Core.Path.{◌≡◌, refl, sym, ◌∙◌}
use mathlib.Core.Bool.{Bool, true, false}
use mathlib.Core.List.{List}
use native.Mathlib.Omega.{arith}
use borrow.Author.Tests.{lt-ltb, le-ltb, ltb-true, ltb-false}
use lib.ListN.{length, get_or}
use lib.Dec.{ltb}
use Rattle.lexer.specs.Refusals.{plain}
use Rattle.lexer.proofs.Laws.Plain.{plain-high, plain-low}
use Rattle.lexer.proofs.has_high.Invariants.{Seen}
use Rattle.lexer.proofs.has_high.Goals as goal
use Rattle.lexer.proofs.has_high.Goals.{then-line-i-gt127, else-line-i-gt127, then-line-behind-gt127, else-line-behind-gt127}

module _ (t : List ℕ) (behind i : ℕ) where
  seen-high : (p : ℕ) (now : Bool) → p < length t → 127 < get_or t p 0 → now ≡ true → Seen t behind (i + 1) now
  seen-high p now h b e = rw e (plain-high t p h b)

  seen_low : (found now : Bool) → Seen t behind i found → get_or t i 0 ≤ 127 → get_or t (behind + i) 0 ≤ 127 → now ≡ found
      → Seen t behind (i + 1) now
  seen_low true now s a b e = rw e s
  seen_low false now s a b e = rw e (λ p h. go p (ltb p i) refl h)
    where
      go : (p : ℕ) (x : Bool) → ltb p i ≡ x → p < i + 1 → (get_or t p 0 ≤ 127) × (get_or t (behind + p) 0 ≤ 127)
      go p true f h = s p (ltb-true p i f)
      go p false f h = let z : p ≡ i = omega (arith, ltb-false p i f) in rw z (a, b)

seen_all : (t : List ℕ) (behind : ℕ) (found : Bool) → behind + 64 ≡ length t → length t ≤ 128 → Seen t behind 64 found
    → found ≡ ltb (plain t) (length t)
seen_all t behind true e h s = sym (lt-ltb (plain t) (length t) s)
seen_all t behind false e h s = sym (le-ltb (plain t) (length t) (omega (arith, plain-low t (λ p i. go p (ltb p 64) refl i))))
  where
    go : (p : ℕ) (x : Bool) → ltb p 64 ≡ x → p < length t → get_or t p 0 ≤ 127
    go p true f i = (s p (ltb-true p 64 f)).0
    go p false f i =
        let z : behind + (p - behind) ≡ p = omega (arith, ltb-false p 64 f) in
        rw z at (s (p - behind) (omega (arith, ltb-false p 64 f))).1

pub loop-i-preserved : goal.loop-i-preserved
loop-i-preserved c =
    let loop = c.loop-i in
    let t = c.args.line.now in
    let behind = length t - 64 in
    elim c.if-line-behind-gt127.branch [
      | then-line-behind-gt127 w ↦ seen-high t behind loop.i (behind + loop.i) _ (omega arith) w.if-line-behind-gt127.true w.found-is
      | else-line-behind-gt127 w ↦ elim c.if-line-i-gt127.branch [
        | then-line-i-gt127 v ↦ seen-high t behind loop.i loop.i _ (omega arith) v.if-line-i-gt127.true (w.found-is ∙ v.found-is)
        | else-line-i-gt127 v ↦ seen_low t behind loop.i loop.found _ loop.invariant v.if-line-i-gt127.false w.if-line-behind-gt127.false (w.found-is ∙ v.found-is)
      ]
    ]

pub returns : goal.returns
returns c =
    let loop = c.loop-i in
    let t = c.args.line.now in
    let e : loop.i ≡ 64 = omega arith in
    seen_all t (length t - 64) loop.found (omega arith) (omega arith) (rw e at loop.invariant)
