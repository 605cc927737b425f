-- Laws of the bytes of a list's elements.
--     each_next, each-done       a loop's turn, and its end
--     front-next, front-done     the same over the first elements of a list
--     each-padded                rows that fill a list up have no bytes, where a row that shows nothing has none
-- Assumes nothing.
use Prim.Native.Nat.{ℕ, suc, ◌+◌, ◌≤◌, ◌<◌}
use mathlib.Core.Path.{◌≡◌, refl, ap}
use mathlib.Core.List.{List, [], ◌∷◌, ◌++◌}
use native.Mathlib.Numerals.{add-one}
use native.Mathlib.Omega.{arith}
use lib.ListN.{length, take, drop, get_or, length-take, drop_of_length-le}
use lib.Seq.{drop-cons, get_or-take}
use Rattle.page.specs.Page.{Page, put}
use Rattle.page.proofs.Laws.Page.{put_step}
use Rattle.row.specs.Rows.{◌is◌, padded}
use Rattle.row.specs.declared.Row.{Row}
use Rattle.row.specs.declared.Value.TheVariants.{Nothing}
use Rattle.layout.specs.Each.{each}

module _ {A : Type 0} (f : A → List ℕ) (xs : List A) (i : ℕ) (p e : Page) where
  pub each_next : (d : A) (q : Page) → i < length xs → q ≡ put p (f (get_or xs i d)) → put p (each f (drop i xs)) ≡ e
      → put q (each f (drop (i + 1) xs)) ≡ e
  unfolding each
  each_next d q h put-it v =
      put_step p q e (f (get_or xs i d)) (each f (drop (i + 1) xs)) put-it (rw (add-one i) (rw (drop-cons xs i d h) at v))

  pub each-done : length xs ≤ i → put p (each f (drop i xs)) ≡ e → p ≡ e
  unfolding put each
  each-done h v = rw (drop_of_length-le xs h) at v

module _ {A : Type 0} (f : A → List ℕ) (xs : List A) (n : ℕ) (fits : n ≤ length xs) (i : ℕ) (p e : Page) where
  pub front-next : (d : A) (q : Page) → i < n → q ≡ put p (f (get_or xs i d)) → put p (each f (drop i (take n xs))) ≡ e
      → put q (each f (drop (i + 1) (take n xs))) ≡ e
  front-next d q h put-it =
      each_next f (take n xs) i p e d q (simp length-take (omega arith)) (rw (get_or-take n xs i d h) put-it)

  pub front-done : n ≤ i → put p (each f (drop i (take n xs))) ≡ e → p ≡ e
  front-done h = each-done f (take n xs) i p e (simp length-take (omega arith))

module _ (f : Row → List ℕ) (none : f (0 is Nothing) ≡ []) where
  filled : (k : ℕ) → each f (padded k []) ≡ []
  unfolding each
  filled ℕ.zero = refl
  filled (suc k) = rw none (filled k)

  pub each-padded : (k : ℕ) (rows : List Row) → length rows ≤ k → each f (padded k rows) ≡ each f rows
  unfolding each
  each-padded k [] h = filled k
  each-padded ℕ.zero (r ∷ t) h = absurd (omega arith)
  each-padded (suc k) (r ∷ t) h = ap (λ (bs : List ℕ). f r ++ bs) (each-padded k t (omega arith))
