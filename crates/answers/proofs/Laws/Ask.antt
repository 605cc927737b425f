-- Laws of the entry that tells a line's kind.
--     asked-small     the number and the place of its refusals have sixteen bits, and the length has thirty-two
--     kind-small      and a line's kind has a number below any of theirs
--     refusal-small, word-is     the same of an answer that was had, and what it is as one number
-- Assumes nothing.
use Prim.Native.Nat.{ℕ, ◌^◌, ◌≤◌, ◌<◌}
use mathlib.Core.Path.{◌≡◌, refl, sym, ap, ◌∙◌}
use mathlib.Core.Bool.{Bool, true, false, cond}
use mathlib.Core.List.{List}
use Rattle.std.specs.Prelude.{Result, Ok, Err}
use native.Mathlib.Omega.{arith}
use borrow.Author.Tests.{ltb-false}
use lib.ListN.{length}
use lib.Dec.{ltb}
use Rattle.line.specs.declared.options.Options.{Options}
use Rattle.lexitem.specs.declared.answer.Refusal.{Refusal}
use Rattle.lexitem.specs.Answer.{refusal}
use Rattle.kind.specs.Kind.{kind_of, number_of}
use Rattle.kind.proofs.Laws.Number.{kind-known}
use Rattle.kind.specs.declared.Kind.{Kind}
use Rattle.lexer.specs.Lexed.{kind_asked}
use Rattle.lexer.specs.Refusals.{plain, excess}
use Rattle.lexer.proofs.Laws.Plain.{plain-le}
use Rattle.packing.proofs.Laws.Packed as packing
use Rattle.answers.specs.Ask.{kind_word}

abbrev pub Small : Result Kind Refusal → Type 0
Small (Ok k) = Unit {0}
Small (Err r) = packing.Small r

pub asked-small : (l : List ℕ) (options : Options) → Small (kind_asked l options)
unfolding kind_asked
asked-small l options = go (ltb 1024 (length l)) (ltb (plain l) (length l)) (ltb-false 1024 (length l))
  where
    go : (b c : Bool) → (b ≡ false → length l ≤ 1024)
        → Small
        (cond b (Err (refusal 2 1024 (excess (length l))))
        (cond c (Err (refusal 3 (plain l) 1)) (Ok (kind_of options.atoms options.mode l))))
    go true c h = (omega arith, omega arith, omega arith)
    go false true h = let n = h refl in (omega arith, omega (arith, plain-le l), omega arith)
    go false false h = tt

pub kind-small : (l : List ℕ) (options : Options) → number_of (kind_of options.atoms options.mode l) < 2 ^ 48
kind-small l options = omega (arith, kind-known options.atoms options.mode l)

module _ (l : List ℕ) (options : Options) (a : Result Kind Refusal) (e : a ≡ kind_asked l options) where
  pub refusal-small : {r : Refusal} → a ≡ Err r → Small (Err r)
  refusal-small f = rw (sym e ∙ f) at (asked-small l options)

  pub word-is : (b : Result Kind Refusal) → a ≡ b → kind_word b ≡ kind_word (kind_asked l options)
  word-is b f = ap kind_word (sym f ∙ e)
