-- For a program that lends 4,096 bytes and holds 1,024 of a line.
--     account-over     a longer line's account doesn't look at its bytes, so that any that are held will do
--     account-put      what was put at the front of the lent bytes is the account, and all of it
-- Assumes nothing.
use Prim.Native.Nat.{ℕ, ◌^◌, ◌≤◌, ◌<◌}
use mathlib.Core.Path.{◌≡◌, refl, ap, ◌∙◌}
use mathlib.Core.List.{List, ◌++◌}
use native.Mathlib.Omega.{arith}
use borrow.Author.Tests.{lt-ltb}
use lib.ListN.{length, take, drop, length-append}
use lib.Seq.{take-append_seam}
use Rattle.lexer.specs.Lexed.{refused, lexed}
use Rattle.lexer.specs.Refusals.{excess}
use Rattle.lexitem.specs.Answer.{refusal}
use Rattle.page.specs.Page.{Page, page, put}
use Rattle.page.proofs.Laws.Page.{put_count, put_front}
use Rattle.account.specs.Account.{around, refused_rows, account_of, input_of, account}
use Rattle.account.proofs.Laws.Short.{account-short}

module _ (number : ℕ) (l : List ℕ) where
  over-lexed : 1024 < length l → lexed (input_of number l) ≡ refused (input_of number l) (refusal 2 1024 (excess (length l)))
  unfolding lexed
  over-lexed h = rw (lt-ltb 1024 (length l) h) refl

  pub account-over : 1024 < length l → (held : List ℕ)
      → account number l ≡ account_of held (refused (input_of number l) (refusal 2 1024 (excess (length l))))
  unfolding account refused_rows around
  account-over h held = rw (over-lexed h) refl

  module _ (before after : List ℕ) (n : ℕ) (small : length before < 2 ^ 64) (room : 4096 ≤ length before)
      (e : page after n ≡ put (page before 0) (account number l)) where
    count : n ≡ length (account number l)
    count = ap (λ (p : Page). p.at) e ∙ put_count before (account number l) (omega (arith, account-short number l))

    pub account-put : (n ≤ length after) × (take n after ≡ account number l)
    account-put =
        let short = account-short number l in
        let text = account number l in
        let held : after ≡ text ++ drop (length text) before = ap (λ (p : Page). p.bytes) e ∙ put_front before text small (omega arith) in
        (rw (held, count) (simp length-append (omega arith)), rw (held, count) (take-append_seam text (drop (length text) before)))
