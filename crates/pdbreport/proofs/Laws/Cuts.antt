-- "For every way of cutting the input": what is known behind bytes is what is known after the lines that they finish, and what is printed for them is
-- the lines' accounts. So all that is printed for a file is what the definition says of it.
--     Reached, bytes-reached     bytes behind a piece that is held
--     cuts_told                  all bytes, and then the end: the accounts of the file's lines
--     cuts_entered               and what was entered for them
-- Assumes nothing.
use Prim.Native.Nat.{ℕ, suc, ◌+◌, ◌^◌, ◌<◌}
use mathlib.Core.Path.{◌≡◌, refl, sym, ap, ◌∙◌, subst}
use mathlib.Core.Bool.{Bool, true, false}
use mathlib.Core.List.{List, [], ◌∷◌, ◌++◌, append_assoc}
use native.Mathlib.Omega.{arith}
use lib.Dec.{eqb}
use lib.ListN.{length, length-replicate}
use Rattle.account.specs.Account.{account}
use Rattle.carry.specs.Held.{State, keep, absorbed}
use Rattle.carry.specs.Pieces.{ended_line, last_line, passed, finished, left}
use Rattle.carry.proofs.Laws.Held.{Holds, holds-begun, holds-absorbed}
use Rattle.carry.proofs.Laws.Pieces.{lines-fed}
use Rattle.ledger.specs.Ledger.{entered}
use Rattle.walker.specs.Lines.{lines_of, before_lf, number_behind}
use Rattle.pdbreport.specs.Told.{answer_of, accounts, all_entered, fresh, accounts_of}
use Rattle.pdbreport.specs.Fed.{Progress, ended, said, fed_all, said_all, start, last_text, last_ledger}
use Rattle.pdbreport.proofs.Laws.Bytes.{fed-other, fed-ends}
use Rattle.pdbreport.proofs.Laws.Line.{ended-text, ended-ledger, last-told}

-- ---- lines behind lines
accounts-append : (n : ℕ) (a b : List (List ℕ)) → accounts n (a ++ b) ≡ accounts n a ++ accounts (n + length a) b
unfolding accounts
accounts-append n [] b = let e : n + 0 ≡ n = omega arith in rw e refl
accounts-append n (l ∷ a) b =
    let e : n + suc (length a) ≡ suc n + length a = omega arith in
    rw e (ap (λ (t : List ℕ). account n l ++ t) (accounts-append (suc n) a b) ∙ sym (append_assoc (account n l) (accounts (suc n) a) (accounts (suc n + length a) b)))

entered-append : (ws : List ℕ) (n : ℕ) (a b : List (List ℕ)) → all_entered ws n (a ++ b) ≡ all_entered (all_entered ws n a) (n + length a) b
unfolding all_entered
entered-append ws n [] b = let e : n + 0 ≡ n = omega arith in rw e refl
entered-append ws n (l ∷ a) b =
    let e : n + suc (length a) ≡ suc n + length a = omega arith in
    rw e (entered-append (entered ws l (answer_of n l)) (suc n) a b)

-- ---- a byte that is kept
holds_byte : (p : List ℕ) (n : ℕ) (s : State) (b : ℕ) → eqb b 10 ≡ false → Holds p n s → Holds (p ++ b ∷ []) n (keep s b)
unfolding absorbed before_lf
holds_byte p n s b e h = rw e at (holds-absorbed p n s (b ∷ []) h)

-- ---- bytes behind a piece
pub record Reached (p : List ℕ) (n : ℕ) (x : Progress) (t : List ℕ) : Type 0 where
  pub holds : Holds (left p t) (n + length (finished p t)) (fed_all x t).state
  pub ledger : (fed_all x t).ledger ≡ all_entered x.ledger n (finished p t)
  pub says : said_all x t ≡ accounts n (finished p t)

pub bytes-reached : (p : List ℕ) (n : ℕ) (x : Progress) (t : List ℕ) → Holds p n x.state → n + length t + 1 < 2 ^ 64 → Reached p n x t
unfolding passed left fed_all said_all said accounts all_entered
bytes-reached p n x [] h few = let e : n + 0 ≡ n = omega arith in record { holds = rw e h; ledger = refl; says = refl }
bytes-reached p n x (b ∷ t) h few =
    go (eqb b 10) refl
    (bytes-reached [] (suc n) (ended x) t
    (rw (let e : number_behind x.state.held.number ≡ suc n = let m = h.number in omega arith in e) (holds-begun (suc n) x.state.kept h.space)) (omega arith))
    (λ e. bytes-reached (p ++ b ∷ []) n (record { ledger = x.ledger; state = keep x.state b }) t (holds_byte p n x.state b e h) (omega arith))
  where
    kept : Progress
    kept = record { ledger = x.ledger; state = keep x.state b }

    go : (c : Bool) → eqb b 10 ≡ c → Reached [] (suc n) (ended x) t → (eqb b 10 ≡ false → Reached (p ++ b ∷ []) n kept t) → Reached p n x (b ∷ t)
    go true e r f =
        let step = fed-ends x b e in
        let q = subst (λ (y : Progress). Reached [] (suc n) y t) (sym step) r in
        let line = ap (λ (y : Progress). y.ledger) step ∙ ended-ledger n p x.state h x.ledger in
        let m : n + suc (length (finished [] t)) ≡ suc n + length (finished [] t) = omega arith in
        record {
          holds = rw (e, m) q.holds;
          ledger = rw e (q.ledger ∙ ap (λ (ws : List ℕ). all_entered ws (suc n) (finished [] t)) line);
          says = rw (e, ended-text n p x.state h) (ap (λ (ls : List ℕ). account n (ended_line p) ++ ls) q.says);
        }
    go false e r f =
        let step = fed-other x b e in
        let q = subst (λ (y : Progress). Reached (p ++ b ∷ []) n y t) (sym step) (f e) in
        record {
          holds = rw e q.holds;
          ledger = rw e (q.ledger ∙ ap (λ (y : Progress). all_entered y.ledger n (finished (p ++ b ∷ []) t)) step);
          says = rw e q.says;
        }

-- ---- from the first line on
module _ (f : List ℕ) (few : length f + 2 < 2 ^ 64) where
  all-reached : Reached [] 1 start f
  all-reached = bytes-reached [] 1 start f (holds-begun 1 start.state.kept (length-replicate {A = ℕ} 1024 0)) (omega arith)

  lines : lines_of f ≡ finished [] f ++ last_line (left [] f)
  lines = lines-fed [] f tt

  pub cuts_told : said_all start f ++ last_text (fed_all start f) ≡ accounts_of f
  cuts_told =
      rw (all-reached.says, (last-told (1 + length (finished [] f)) (left [] f) (fed_all start f) all-reached.holds).0, lines)
      (sym (accounts-append 1 (finished [] f) (last_line (left [] f))))

  pub cuts_entered : last_ledger (fed_all start f) ≡ all_entered fresh 1 (lines_of f)
  cuts_entered =
      rw ((last-told (1 + length (finished [] f)) (left [] f) (fed_all start f) all-reached.holds).1, all-reached.ledger, lines)
      (sym (entered-append fresh 1 (finished [] f) (last_line (left [] f))))
