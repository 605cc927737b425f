-- The rows of the definition, which are tests, agree with the rules of 01's table.
--     Agrees         a row holds where a rule does, and gives what the rule gives
--     AllAgree       so the rows and the rules of two lists, one by one
--     rules-agree    the rows and the rules of the table agree
-- Assumes nothing.
use Prim.Native.Nat.{ℕ, zero, suc, ◌-◌, ◌<◌, ◌≤◌}
use mathlib.Core.Path.{◌≡◌, refl, ap}
use mathlib.Core.Bool.{Bool, true, false, cond, not, ◌&&◌}
use mathlib.Core.List.{List, [], ◌∷◌}
use native.Mathlib.Nat.{not-suc-le-zero, le_of_suc-le-suc}
use native.Mathlib.Omega.{arith}
use borrow.Author.Tests.{ltb-true, ltb-false, lt-ltb, le-ltb, leb-true, le-leb, eqb-false, ne_eqb, not-true}
use lib.ListN.{length, get_or}
use lib.Seq.{length-take-le}
use lib.Dec.{ltb, leb, eqb}
use Rattle.number.specs.Trim.{kept, end_trimmed}
use Rattle.number.proofs.Laws.Choice.{and_left, and_right, and_both, clash}
use Rattle.number.proofs.Laws.Trim.{kept-le}
use Rattle.lexitem.specs.declared.answer.Refusal.{Refusal}
use Rattle.kind.specs.declared.Kind.{Kind}
use Rattle.kind.specs.declared.Kind.TheVariants.{Header, Remark}
use Rattle.lexer.specs.Refusals.{Input, Test, Asking, kind, reads, another, plain, excess, header_cut, remark_long, missing, test, tests}
use Rattle.lexer.specs.Refusals.Asking.{its_kind, its_record, record_as}
use Rattle.kind.specs.Kind.{number_of}
use Rattle.kind.proofs.Laws.Number.{number-tells, kind-known}
use Rattle.lexitem.specs.Describe.{bound_of}
use Rattle.lexitem.specs.Answer.{refusal}
use Rattle.lexitem.specs.declared.bound.Bound.{Bound}
use Rattle.lexitem.specs.declared.bound.Bound.TheVariants as bound
use Rattle.promises.proofs.Laws.Kinds.{Asks, asks, least-asked}
use Rattle.promises.specs.Refusing.{Rule, FirstHigh, Least, reading, kind_rule, rules, table_rule, length_rule, byte_rule, header_rule, remark_rule, least_rule}

abbrev pub Agrees : Test → Rule → Type 0
Agrees x rule = (x.holds ≡ true → rule x.gives) × ((r : Refusal) → rule r → (x.holds ≡ true) × (r ≡ x.gives))

abbrev pub AllAgree : List Test → List Rule → Type 0
AllAgree [] [] = Unit {0}
AllAgree [] (rule ∷ rules) = ⊥
AllAgree (x ∷ xs) [] = ⊥
AllAgree (x ∷ xs) (rule ∷ rules) = Agrees x rule × AllAgree xs rules

-- a row whose test says what a proposition says
by_test : {P : Type 0} (x : Test) → (x.holds ≡ true → P) → (P → x.holds ≡ true) → Agrees x (λ r. P × (r ≡ x.gives))
by_test x f g = (λ e. (f e, refl), λ r h. (g h.0, h.1))

-- ---- rows 1 to 3
table-row : (i : Input) → Agrees (test (not (eqb (length i.remarks) 1000)) 1 0 0) (table_rule i)
table-row i =
    by_test (test (not (eqb (length i.remarks) 1000)) 1 0 0)
    (λ e. eqb-false (length i.remarks) 1000 (not-true (eqb (length i.remarks) 1000) e))
    (λ h. ap not (ne_eqb (length i.remarks) 1000 h))

length-row : (i : Input) → Agrees (test (ltb 1024 (length i.line)) 2 1024 (excess (length i.line))) (length_rule i)
length-row i =
    by_test (test (ltb 1024 (length i.line)) 2 1024 (excess (length i.line)))
    (ltb-true 1024 (length i.line))
    (lt-ltb 1024 (length i.line))

-- the bytes before the first of 128 or more say where that one stands
high-plain : (l : List ℕ) → plain l < length l → FirstHigh l (plain l)
unfolding plain
high-plain [] h = absurd (not-suc-le-zero h)
high-plain (b ∷ t) h = go (ltb b 128) refl h (high-plain t)
  where
    go : (x : Bool) → ltb b 128 ≡ x → cond x (suc (plain t)) 0 < suc (length t) → (plain t < length t → FirstHigh t (plain t))
        → FirstHigh (b ∷ t) (cond x (suc (plain t)) 0)
    go true e p ih =
        let r = ih (le_of_suc-le-suc p) in
        record { reached = p; high = r.high; before = low (ltb-true b 128 e) r }
      where
        low : b < 128 → FirstHigh t (plain t) → (at : ℕ) → at < suc (plain t) → get_or (b ∷ t) at 0 < 128
        low q r zero k = q
        low q r (suc at) k = r.before at (le_of_suc-le-suc k)
    go false e p ih = record { reached = p; high = ltb-false b 128 e; before = λ at k. absurd (not-suc-le-zero k) }

plain-high : (l : List ℕ) (k : ℕ) → FirstHigh l k → plain l ≡ k
unfolding plain
plain-high [] k h = absurd (not-suc-le-zero h.reached)
plain-high (b ∷ t) zero h = rw (le-ltb b 128 h.high) refl
plain-high (b ∷ t) (suc k) h =
    let later : FirstHigh t k = record {
      reached = le_of_suc-le-suc h.reached;
      high = h.high;
      before = λ at p. h.before (suc at) (omega arith);
    } in
    rw (lt-ltb b 128 (h.before 0 (omega arith))) (ap suc (plain-high t k later))

byte_row : (i : Input) → Agrees (test (ltb (plain i.line) (length i.line)) 3 (plain i.line) 1) (byte_rule i)
byte_row i =
    let l = i.line in (
      λ e. (plain l, high-plain l (ltb-true (plain l) (length l) e), refl),
      λ r h.
          let p = plain-high l h.0 h.1 in
          (lt-ltb (plain l) (length l) (rw p h.1.reached), rw p h.2),
    )

-- ---- rows 4 to 6, by what a kind asks of its line
false_is : {A : Type 0} → false ≡ true → A
false_is e = absurd (clash {b = false} e refl)

module _ (k : Kind) (l : List ℕ) where
  cut-header : (b : Bound) → Asks k b → header_cut b l ≡ true → (k ≡ Header) × (length l < 66)
  cut-header bound.Header a e = (a, ltb-true (length l) 66 e)
  cut-header bound.Remark a e = false_is e
  cut-header (bound.Least n) a e = false_is e
  cut-header bound.Free a e = false_is e

  header-cut : k ≡ Header → length l < 66 → header_cut (bound_of k) l ≡ true
  header-cut e h = rw e (lt-ltb (length l) 66 h)

  long-remark : (loose : Bool) (b : Bound) → Asks k b → remark_long b l loose ≡ true
      → (k ≡ Remark) × (11 < length l) × (80 ≤ length (end_trimmed l)) × (loose ≡ false)
  unfolding end_trimmed
  long-remark loose bound.Header a e = false_is e
  long-remark loose bound.Remark a e =
      let p = and_left (ltb 11 (length l) && leb 80 (kept l)) (not loose) e in
      let q = leb-true 80 (kept l) (and_right (ltb 11 (length l)) (leb 80 (kept l)) p) in (
        a,
        ltb-true 11 (length l) (and_left (ltb 11 (length l)) (leb 80 (kept l)) p),
        rw (length-take-le (kept l) l (kept-le l)) q,
        not-true loose (and_right (ltb 11 (length l) && leb 80 (kept l)) (not loose) e),
      )
  long-remark loose (bound.Least n) a e = false_is e
  long-remark loose bound.Free a e = false_is e

  remark-long : (loose : Bool) → k ≡ Remark → 11 < length l → 80 ≤ length (end_trimmed l) → loose ≡ false
      → remark_long (bound_of k) l loose ≡ true
  unfolding end_trimmed
  remark-long loose e h m n =
      let q = rw (length-take-le (kept l) l (kept-le l)) at m in
      rw e (and_both (and_both (lt-ltb 11 (length l) h) (le-leb 80 (kept l) q)) (ap not n))

  short-least : (b : Bound) → Asks k b → ltb 0 (missing b l) ≡ true
      → (n : ℕ) × Least k n × (length l < n) × (missing b l ≡ n - length l)
  short-least bound.Header a e = false_is e
  short-least bound.Remark a e = false_is e
  short-least (bound.Least n) a e = let h = ltb-true 0 (n - length l) e in (n, a, omega arith, refl)
  short-least bound.Free a e = false_is e

module _ (i : Input) where
  header_row : Agrees (test (header_cut (bound_of (kind i)) i.line) 4 11 (length i.line - 11)) (header_rule i)
  header_row =
      let k = kind i in
      let l = i.line in (
        λ e. let h = cut-header k l (bound_of k) (asks k) e in (h.0, h.1, refl),
        λ r h. (header-cut k l h.0 h.1, h.2),
      )

  remark-row : Agrees (test (remark_long (bound_of (kind i)) i.line i.options.loose) 5 80 (length i.line - 80)) (remark_rule i)
  remark-row =
      let k = kind i in
      let l = i.line in
      let loose = i.options.loose in (
        λ e. let h = long-remark k l loose (bound_of k) (asks k) e in (h.0, h.1, h.2, h.3, refl),
        λ r h. (remark-long k l loose h.0 h.1 h.2 h.3, h.4),
      )

  least-row : Agrees (test (ltb 0 (missing (bound_of (kind i)) i.line)) 6 (length i.line) (missing (bound_of (kind i)) i.line)) (least_rule i)
  least-row =
      let k = kind i in
      let l = i.line in (
        λ e.
            let h = short-least k l (bound_of k) (asks k) e in
            (h.0, h.1, h.2, ap (refusal 6 (length l)) h.3),
        λ r h.
            let b = least-asked h.1 in
            let p = h.2 in
            rw b (lt-ltb 0 (h.0 - length l) (omega arith), h.3),
      )

  -- ---- by what is asked
  -- a row for who asks for a record, and its rule
  for_reading : (a : Asking) {holds : Bool} {number place length : ℕ} {rule : Rule}
      → Agrees (test holds number place length) rule → Agrees (test (reads a && holds) number place length) (reading a rule)
  for_reading its_kind h = (λ e. false_is e, λ r p. absurd p.0)
  for_reading its_record h = (λ e. (tt, h.0 e), λ r p. h.1 r p.1)
  for_reading (record_as k) h = (λ e. (tt, h.0 e), λ r p. h.1 r p.1)

  -- a number that a line's kind has is that kind's alone
  kind_row : (a : Asking) → Agrees (test (another a (kind i)) 15 0 0) (kind_rule a i)
  kind_row its_kind = (λ e. false_is e, λ r p. absurd p.0)
  kind_row its_record = (λ e. false_is e, λ r p. absurd p.0)
  kind_row (record_as k) =
      by_test (test (another (record_as k) (kind i)) 15 0 0)
      (λ e same. eqb-false (number_of k) (number_of (kind i)) (not-true (eqb (number_of k) (number_of (kind i))) e) (ap number_of same))
      (λ other. ap not (ne_eqb (number_of k) (number_of (kind i)) (λ e. other (number-tells k (kind i) (kind-known i.options.atoms i.options.mode i.line) e))))

  pub rules-agree : (a : Asking) → AllAgree (tests a i) (rules a i)
  rules-agree a =
      (for_reading a (table-row i), (length-row i, (byte_row i, (kind_row a, (for_reading a header_row, (for_reading a remark-row, (for_reading a least-row, tt)))))))
