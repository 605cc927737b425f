-- What calls leave, one after the other.
--     kind-steps, accepted-steps     by a line's kind, and of a line that was accepted
-- Assumes nothing.
use Prim.Native.Nat.{ℕ, min}
use mathlib.Core.Path.{◌≡◌, refl, sym, ap, ◌∙◌}
use mathlib.Core.Bool.{Bool, not, ◌&&◌}
use mathlib.Core.List.{List}
use native.Mathlib.Omega.{arith}
use lib.ListN.{length, take, set}
use lib.Seq.{length-take-le}
use lib.Dec.{eqb, ltb}
use Rattle.kind.specs.Kind.{number_of}
use Rattle.kind.specs.declared.Kind.{Kind}
use Rattle.line.specs.declared.fault.Fault.{Fault}
use Rattle.ledger.specs.Ledger.{added, raised, one, any, is_at, atoms, with_kind, with_faults, with_accepted}
use Rattle.ledger.proofs.Laws.Turns.{take-few}

pub kind-steps : (ws a b c d : List ℕ) (k : ℕ) (off is both : Bool) (x y z : ℕ) → x ≡ one (not (eqb k 0)) → a ≡ added ws 1 x → is ≡ atoms k → y ≡ one is
    → b ≡ added a 4 y → both ≡ (atoms k && off) → z ≡ one both → c ≡ added b 5 z → d ≡ raised c 6 (eqb k 27) → d ≡ with_kind ws k off
unfolding with_kind
kind-steps ws a b c d k off is both x y z e f g h i j l m n = rw (n, m, l, j, i, h, g, f, e) refl

pub accepted-steps : (ws a b d : List ℕ) (line count : ℕ) (kind : Kind) (list : List Fault) (n k : ℕ) (off cut : Bool) (x y : ℕ) → length list ≡ 15
    → n ≡ min count 15 → off ≡ any (is_at 2 38 46) (take n list) → cut ≡ any (is_at 1 0 65535) (take n list) → x ≡ one cut
    → k ≡ number_of kind → a ≡ with_kind ws k off → y ≡ one (ltb 0 n) → b ≡ added a 2 y
    → d ≡ with_faults (set b 7 x) line kind (take n list) → d ≡ with_accepted ws line kind (take count list)
unfolding with_accepted
accepted-steps ws a b d line count kind list n k off cut x y many e f g h i j l m o =
    let t : take count list ≡ take n list = sym (ap (λ (z : ℕ). take z list) e ∙ take-few list count many) in
    let size : length (take n list) ≡ n = length-take-le n list (omega arith) in
    rw (t, size, o, m, l, j, i, h, g, f) refl
