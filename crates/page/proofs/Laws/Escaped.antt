-- Laws of escaped texts.
--     escaped-next, escaped-done      a loop's turn, and its end
--     shown-three                     a byte that is escaped, by the code's puts
--     escaped-length                  at least as long, and at most three times
--     escaped-least, escaped-most     its bytes are from 32 on, and those of a text of bytes up to 126
--     escaped_no_feed                 no LF among them
--     escaped-says, escaped-tells     it says the text, so different texts have different ones
-- Assumes nothing.
use Prim.Native.Nat.{ℕ, ◌+◌, ◌*◌, ◌≤◌, ◌<◌, ◌/◌, ◌%◌}
use mathlib.Core.Path.{◌≡◌, refl, sym, ap, ◌∙◌}
use mathlib.Core.Bool.{Bool, true, false, cond, ◌&&◌, not, and-eq-true_iff}
use mathlib.Core.Logic.{⊎_elim}
use mathlib.Core.List.Memᴰ
use mathlib.Core.List.{List, [], ◌∷◌, ◌++◌, Memᴰ}
use native.Mathlib.Nat.{div-add-mod'}
use native.Mathlib.Numerals.{add-one}
use native.Mathlib.Omega.{arith}
use borrow.Author.Tests.{leb-true, not-true}
use lib.ListN.{length, drop, get_or, length-append, drop_of_length-le}
use lib.Seq.{drop-cons}
use lib.Dec.{leb, eqb}
use Rattle.page.specs.Page.{Page, put}
use Rattle.page.specs.Numerals.{hex_digit, plain, shown, escaped}
use Rattle.page.specs.Said.{unescaped}
use Rattle.page.proofs.Laws.Hex.{digit-least, digit-most, digit_value}
use Rattle.page.proofs.Laws.Page.{put_step, put_then}

-- ---- a loop's turn
module _ (t : List ℕ) (i : ℕ) (p e : Page) where
  pub escaped-next : (q : Page) → i < length t → q ≡ put p (shown (get_or t i 0)) → put p (escaped (drop i t)) ≡ e
      → put q (escaped (drop (i + 1) t)) ≡ e
  unfolding escaped
  escaped-next q l f h = put_step p q e (shown (get_or t i 0)) (escaped (drop (i + 1) t)) f (rw (add-one i) (rw (drop-cons t i 0 l) at h))

  pub escaped-done : length t ≤ i → put p (escaped (drop i t)) ≡ e → p ≡ e
  unfolding put escaped
  escaped-done l h = rw (drop_of_length-le t l) at h

-- ---- one byte
pub shown-three : (b h l : ℕ) (p q r s : Page) → plain b ≡ false → q ≡ put p (37 ∷ []) → h ≡ hex_digit (b / 16)
    → r ≡ put q (h ∷ []) → l ≡ hex_digit (b % 16) → s ≡ put r (l ∷ []) → s ≡ put p (shown b)
unfolding shown
shown-three b h l p q r s f eq eh er el es =
    rw (f, ← eh, ← el) (put_then p r s (37 ∷ h ∷ []) (l ∷ []) (put_then p q r (37 ∷ []) (h ∷ []) eq er) es)

-- what holds of a byte's showing, by whether it stands as itself
by_byte : (P : ℕ → List ℕ → Type 0) → ((b : ℕ) → plain b ≡ true → P b (b ∷ []))
    → ((b : ℕ) → P b (37 ∷ hex_digit (b / 16) ∷ hex_digit (b % 16) ∷ [])) → (b : ℕ) → P b (shown b)
unfolding shown
by_byte P one three b = go (plain b) refl
  where
    go : (c : Bool) → plain b ≡ c → P b (cond c (b ∷ []) (37 ∷ hex_digit (b / 16) ∷ hex_digit (b % 16) ∷ []))
    go true e = one b e
    go false e = three b

plain_true : (b : ℕ) → plain b ≡ true → (32 ≤ b) × (b ≤ 126) × (eqb b 37 ≡ false)
unfolding plain
plain_true b e =
    let f = (and-eq-true_iff (leb 32 b && leb b 126) (not (eqb b 37))).0 e in
    let g = (and-eq-true_iff (leb 32 b) (leb b 126)).0 f.0 in
    (leb-true 32 b g.0, leb-true b 126 g.1, not-true (eqb b 37) f.1)

-- ---- the length
shown-length : (b : ℕ) → (1 ≤ length (shown b)) × (length (shown b) ≤ 3)
shown-length =
    by_byte (λ b t. (1 ≤ length t) × (length t ≤ 3)) (λ b e. (omega arith, omega arith)) (λ b. (omega arith, omega arith))

pub escaped-length : (t : List ℕ) → (length t ≤ length (escaped t)) × (length (escaped t) ≤ 3 * length t)
unfolding escaped
escaped-length [] = (omega arith, omega arith)
escaped-length (b ∷ t) =
    let e = length-append (shown b) (escaped t) in
    let one = shown-length b in
    let rest = escaped-length t in
    (omega arith, omega arith)

-- ---- its bytes
shown-least : (x b : ℕ) → Memᴰ x (shown b) → 32 ≤ x
shown-least x =
    by_byte (λ b t. Memᴰ x t → 32 ≤ x) (λ b e m. omega (arith, plain_true b e, Memᴰ.eq_of_singleton m))
    (λ b m.
    ⊎_elim (λ e. omega arith)
    (λ m.
    ⊎_elim (λ e. omega (arith, digit-least (b / 16))) (λ m. omega (arith, digit-least (b % 16), Memᴰ.eq_of_singleton m))
    (Memᴰ.cases_cons m))
    (Memᴰ.cases_cons m))

shown-most : (x b : ℕ) → b < 256 → Memᴰ x (shown b) → x ≤ 126
shown-most x =
    by_byte (λ b t. b < 256 → Memᴰ x t → x ≤ 126) (λ b e h m. omega (arith, plain_true b e, Memᴰ.eq_of_singleton m))
    (λ b h m.
    ⊎_elim (λ e. omega arith)
    (λ m.
    ⊎_elim (λ e. omega (arith, digit-most (b / 16) (omega arith)))
    (λ m. omega (arith, digit-most (b % 16) (omega arith), Memᴰ.eq_of_singleton m))
    (Memᴰ.cases_cons m))
    (Memᴰ.cases_cons m))

-- a byte of the escaped text is one of those that show a byte of the text
from : (t : List ℕ) (x : ℕ) → Memᴰ x (escaped t) → (b : ℕ) × Memᴰ b t × Memᴰ x (shown b)
unfolding escaped
from [] x m = absurd (Memᴰ.not-nil m)
from (b ∷ t) x m =
    ⊎_elim (λ h. (b, Memᴰ.head refl, h))
    (λ h. let f = from t x h in (f.0, Memᴰ.tail f.1, f.2))
    (Memᴰ.append_cases (shown b) m)

module _ (t : List ℕ) where
  pub escaped-least : (x : ℕ) → Memᴰ x (escaped t) → 32 ≤ x
  escaped-least x m = let f = from t x m in shown-least x f.0 f.2

  pub escaped-most : ((b : ℕ) → Memᴰ b t → b < 256) → (x : ℕ) → Memᴰ x (escaped t) → x ≤ 126
  escaped-most bytes x m = let f = from t x m in shown-most x f.0 (bytes f.0 f.1) f.2

  pub escaped_no_feed : Memᴰ 10 (escaped t) → ⊥
  escaped_no_feed m = omega (arith, escaped-least 10 m)

-- ---- what it says
back-plain : (b : ℕ) (t : List ℕ) → eqb b 37 ≡ false → unescaped (b ∷ t) ≡ b ∷ unescaped t
unfolding unescaped
back-plain b [] e = refl
back-plain b (h ∷ []) e = refl
back-plain b (h ∷ l ∷ t) e = rw e refl

back : (t : List ℕ) (b : ℕ) → unescaped (shown b ++ t) ≡ b ∷ unescaped t
unfolding unescaped
back t =
    by_byte (λ b s. unescaped (s ++ t) ≡ b ∷ unescaped t) (λ b e. back-plain b t (plain_true b e).2)
    (λ b. rw (digit_value (b / 16), digit_value (b % 16), div-add-mod' b 16) refl)

pub escaped-says : (t : List ℕ) → unescaped (escaped t) ≡ t
unfolding unescaped escaped
escaped-says [] = refl
escaped-says (b ∷ t) = back (escaped t) b ∙ ap (◌∷◌ b) (escaped-says t)

pub escaped-tells : (s t : List ℕ) → escaped s ≡ escaped t → s ≡ t
escaped-tells s t e = sym (escaped-says s) ∙ ap unescaped e ∙ escaped-says t
