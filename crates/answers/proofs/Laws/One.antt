-- The contracts of the entries leave nothing free, and what they answer goes together.
--     written_one, told-one     two answers that a contract allows coincide, with every lent byte
--     told-apart                no byte is written exactly where the refusal's number is above 0
--     room-enough               with 4,096 lent bytes every accepted line is listed
-- Assumes nothing.
use Prim.Native.Nat.{ℕ, ◌≤◌, ◌<◌}
use mathlib.Core.Path.{◌≡◌, refl, sym, ◌∙◌}
use mathlib.Core.Bool.{Bool, true, false, cond, ◌&&◌}
use mathlib.Core.List.{List, [], ◌∷◌}
use mathlib.Core.Logic.{◌↔◌}
use Rattle.std.specs.Prelude.{Result, Ok, Err}
use native.Mathlib.Omega.{arith}
use borrow.Author.Tests.{le-leb, ltb-true}
use lib.ListN.{length}
use lib.Dec.{leb, ltb}
use Rattle.lexer.specs.Lexed.{lexed, refused, accepted, first_of}
use Rattle.lexer.specs.Refusals.{Input, Test, tests}
use Rattle.lexer.specs.Refusals.Asking.{its_record}
use Rattle.lexitem.specs.declared.answer.Refusal.{Refusal}
use Rattle.lexitem.specs.declared.item.LexItem.{LexItem}
use Rattle.listing.specs.Listed.{listed_answer, listing_by}
use Rattle.listing.specs.Listing.{longest}
use Rattle.listing.proofs.Laws.Longest.{listing_some, listing_longest}
use Rattle.answers.specs.Face.{written_by, refusal_by, written_for, refusal_for, WrittenInto, Told}

module _ {before : List ℕ} {i : Input} {r s : ℕ} {after other : List ℕ} where
  pub written_one : WrittenInto before i r after → WrittenInto before i s other → (r ≡ s) × (after ≡ other)
  written_one a b = (a.answer ∙ sym b.answer, a.bytes ∙ sym b.bytes)

  pub told-one : (part : Refusal → ℕ) → Told part before i r after → Told part before i s other → (r ≡ s) × (after ≡ other)
  told-one part a b = (a.answer ∙ sym b.answer, a.bytes ∙ sym b.bytes)

-- ---- a refusal of the line has a number above 0
abbrev number_in : Result LexItem Refusal → ℕ
number_in (Ok x) = 1
number_in (Err r) = r.number

abbrev numbered : List Test → Bool
numbered [] = true
numbered (r ∷ t) = ltb 0 r.gives.number && numbered t

both : (a b : Bool) → a && b ≡ true → (a ≡ true) × (b ≡ true)
both true b e = (refl, e)
both false b e = (e, cc)

first-number : (i : Input) (rs : List Test) → numbered rs ≡ true → 0 < number_in (first_of (refused i) rs (accepted i)).outcome
first-number i [] e = omega arith
first-number i (r ∷ t) e =
    let h = both (ltb 0 r.gives.number) (numbered t) e in
    go r.holds (ltb-true 0 r.gives.number h.0) (first-number i t h.1)
  where
    go : (b : Bool) → 0 < r.gives.number → 0 < number_in (first_of (refused i) t (accepted i)).outcome
        → 0 < number_in (cond b (refused i r.gives) (first_of (refused i) t (accepted i))).outcome
    go true h on = h
    go false h on = on

number-some : (i : Input) → 0 < number_in (lexed i).outcome
unfolding lexed
number-some i = first-number i (tests its_record i) refl

-- ---- by what is measured
abbrev Apart : Result ℕ Refusal → Type 0
Apart m = (written_by m ≡ 0) ↔ (0 < (refusal_by m).number)

apart : (room : ℕ) (i : Input) (o : Result LexItem Refusal) → 0 < number_in o → Apart (listed_answer room i o)
apart room i (Ok x) h = go (leb (length (listing_by i x)) room) (listing_some _ _ _ _)
  where
    go : (b : Bool) → 0 < length (listing_by i x)
        → Apart (cond b (Ok (length (listing_by i x))) (Err (record { number = 8; place = 0; length = length (listing_by i x) })))
    go true some = (λ e. absurd (omega arith), λ k. absurd (omega arith))
    go false some = (λ e. omega arith, λ k. refl)
apart room i (Err r) h = (λ e. h, λ k. refl)

pub told-apart : (room : ℕ) (i : Input) → (written_for room i ≡ 0) ↔ (0 < (refusal_for room i).number)
told-apart room i = apart room i (lexed i).outcome (number-some i)

pub room-enough : (room : ℕ) (i : Input) (x : LexItem) → longest ≤ room → (lexed i).outcome ≡ Ok x
    → written_for room i ≡ length (listing_by i x)
room-enough room i x h e =
    let l = listing_longest i x e in
    rw (e, le-leb (length (listing_by i x)) room (omega arith)) refl
