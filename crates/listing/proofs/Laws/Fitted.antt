-- What a listing leaves on lent bytes. It is measured first, by a put on other bytes.
--     measured-no, measured_yes     what is answered by its length: too long, and short enough
--     fitted_no, fitted_yes         what is left then on the lent bytes
--     fits                          what was measured short enough has room
-- Assumes nothing.
use Prim.Native.Nat.{ℕ, ◌^◌, ◌≤◌, ◌<◌}
use mathlib.Core.Path.{◌≡◌, refl, sym, ap, ◌∙◌}
use mathlib.Core.Bool.{Bool, true, false, cond}
use mathlib.Core.List.{List, ◌++◌}
use Rattle.std.specs.Prelude.{Ok, Err}
use native.Mathlib.Omega.{arith}
use borrow.Author.Tests.{le-leb, lt-leb, leb-true}
use lib.ListN.{length, drop}
use lib.Dec.{leb}
use Rattle.lexitem.specs.declared.answer.Refusal.{Refusal}
use Rattle.page.specs.Page.{Page, page, put}
use Rattle.page.proofs.Laws.Page.{put_count, put_front}
use Rattle.listing.specs.Listed.{Fitted, fitted_answer, fitted_bytes}
use Rattle.listing.specs.Listing.{longest}

module _ (room : ℕ) (listing : List ℕ) (short : length listing ≤ longest) (one mark : List ℕ) (n : ℕ) (e : page mark n ≡ put (page one 0) listing) where
  counted : n ≡ length listing
  counted = ap (λ (p : Page). p.at) e ∙ put_count one listing (omega arith)

  pub measured-no : room < n → Err (record { number = 8; place = 0; length = n }) ≡ fitted_answer room listing
  measured-no h = let m = counted in rw (lt-leb (length listing) room (omega arith), m) refl

  pub measured_yes : n ≤ room → Ok n ≡ fitted_answer room listing
  measured_yes h = let m = counted in rw (le-leb (length listing) room (omega arith), m) refl

-- ---- by what is answered
no_bytes : (before listing : List ℕ) (b : Bool) (x n : Refusal) → Err x ≡ cond b (Ok (length listing)) (Err n)
    → cond b (listing ++ drop (length listing) before) before ≡ before
no_bytes before listing true x n e = cc
no_bytes before listing false x n e = refl

pub untouched : (before listing : List ℕ) (x : Refusal) → Err x ≡ fitted_answer (length before) listing → fitted_bytes before listing ≡ before
untouched before listing x e = no_bytes before listing (leb (length listing) (length before)) x _ e

pub fitted_no : (before listing : List ℕ) (x : Refusal) → Err x ≡ fitted_answer (length before) listing → Fitted before listing (Err x) before
fitted_no before listing x e = record { answer = e; bytes = sym (untouched before listing x e) }

is-short : (b : Bool) (k n : ℕ) (x : Refusal) → Ok k ≡ cond b (Ok n) (Err x) → b ≡ true
is-short true k n x e = refl
is-short false k n x e = cc

pub fits : (before listing : List ℕ) (k : ℕ) → Ok k ≡ fitted_answer (length before) listing → length listing ≤ length before
fits before listing k e =
    leb-true (length listing) (length before) (is-short (leb (length listing) (length before)) k (length listing) _ e)

pub fitted_yes : (before listing : List ℕ) → length listing ≤ length before → length before < 2 ^ 64
    → (after : List ℕ) (r : ℕ) → page after r ≡ put (page before 0) listing → Fitted before listing (Ok r) after
fitted_yes before listing h room after r f =
    let yes = le-leb (length listing) (length before) h in
    record {
      answer = rw yes (ap Ok (ap (λ (p : Page). p.at) f ∙ put_count before listing (omega arith)));
      bytes = rw yes (ap (λ (p : Page). p.bytes) f ∙ put_front before listing room (omega arith));
    }
