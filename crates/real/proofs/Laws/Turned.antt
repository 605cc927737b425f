-- A quotient by a double with its sign turned is the quotient with its sign turned: rounding doesn't look at the sign. So a sign may go with the
-- divisor.
-- Assumes nothing.
use mathlib.Core.Path.{◌≡◌, refl}
use Prim.Native.Nat.{ℕ, zero, suc, ◌+◌, ◌-◌, ◌*◌, ◌/◌, ◌%◌, ◌^◌, compare}
use mathlib.Core.Bool.{Bool, true, false, not, cond}
use lib.Dec.{eqb, ltb}
use lib.Ieee.{Float, nan, inf, fin, Format, prec, emax, low, up, down, unlike, size, nearest, odd, units, round, neg, div}

neg_cond : (b : Bool) (x y : Float) → cond b (neg x) (neg y) ≡ neg (cond b x y)
neg_cond true x y = refl
neg_cond false x y = refl

unlike_not : (s t : Bool) → unlike s (not t) ≡ not (unlike s t)
unlike_not true true = refl
unlike_not true false = refl
unlike_not false true = refl
unlike_not false false = refl

odd_turned : (d : ℕ) (s : Bool) (q k l : ℕ) → odd d (not s) q k l ≡ neg (odd d s q k l)
unfolding odd neg
odd_turned d s zero k l = refl
odd_turned d s (suc q) k l = refl

units-turned : (f : Format) (s : Bool) (q k : ℕ) → units f (not s) q k ≡ neg (units f s q k)
unfolding units neg
units-turned f s q k =
    rw (odd_turned (suc (prec f)) s q k (low f))
    (neg_cond (ltb (q * 2 ^ k) (2 ^ (low f + suc (emax f)))) (odd (suc (prec f)) s q k (low f)) (inf s))

round_turned : (f : Format) (s : Bool) (m d : ℕ) → round f (not s) m d ≡ neg (round f s m d)
unfolding round
round_turned f s m d =
    let n = m * 2 ^ low f in
    let k = size (n / d) - prec f in
    let u = d * 2 ^ k in
    let q = nearest (n / u) (compare (n % u * 2) u) in
    units-turned f s q k

pub div_turned : (f : Format) (x y : Float) → div f x (neg y) ≡ neg (div f x y)
unfolding div neg
div_turned f nan y = refl
div_turned f (inf s) nan = refl
div_turned f (inf s) (inf t) = refl
div_turned f (inf s) (fin t n d) = rw (unlike_not s t) refl
div_turned f (fin s m e) nan = refl
div_turned f (fin s m e) (inf t) = rw (unlike_not s t) refl
div_turned f (fin s m e) (fin t n d) =
    let a = m * up e * down d in
    let b = n * up d * down e in
    let r = unlike s t in
    rw (unlike_not s t, round_turned f r a b, neg_cond (eqb m 0) nan (inf r))
    (neg_cond (eqb n 0) (cond (eqb m 0) nan (inf r)) (round f r a b))
