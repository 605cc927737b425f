-- A number of two digits.
--     column-put      its tens and its units, one behind the other, are its bytes
-- Assumes nothing.
use Prim.Native.Nat.{ℕ, ◌+◌, ◌/◌, ◌%◌, ◌≤◌, ◌<◌}
use mathlib.Core.Path.{◌≡◌}
use mathlib.Core.List.{[], ◌∷◌}
use native.Mathlib.Omega.{arith}
use borrow.Author.Tests.{lt-ltb, le-ltb}
use Rattle.page.proofs.Laws.Page.{put_then}
use Rattle.page.specs.Numerals.{decimal, decimal_before}
use Rattle.page.specs.Page.{Page, put}

pub column-put : (n : ℕ) (p q r : Page) → 10 ≤ n → n ≤ 99 → q ≡ put p ((48 + n / 10) ∷ []) → r ≡ put q ((48 + n % 10) ∷ []) → r ≡ put p (decimal n)
unfolding decimal decimal_before
column-put n p q r low high e f =
    let tens : n / 10 < 10 = omega arith in
    rw (le-ltb n 10 low, lt-ltb (n / 10) 10 tens) (put_then _ _ _ _ _ e f)
