-- "Given exactly when": each refusal of 01's table is given where its rule holds and no earlier one does, and a line is read where none does; of
-- each of the three entries, whose rules are one list.
--     refused_when          an entry refuses a line with r exactly when the first rule that holds gives r
--     accepted_exactly      it answers the line's kind or the record of its kind exactly when no rule holds
--     refused_or_accepted   and does one or the other
--     refused_once          so the rules give a line one refusal at most
--     refusal-numbered      whose number is one of the entry's
--     zero-accepted         an outcome whose number is 0 is a record
--     refused_by_number     an outcome has a refusal's number, place and length exactly when the first rule that holds gives them
--     refusal-empty         a refusal comes with an empty list of faults, as_refusal_empty as one of a kind
--     refusal_unlisted      which lists none
--     line-through          the line's number is handed through, as_line_through as one of a kind
--     atoms-kept            under atoms only a line is of a kind that atoms only keeps
--     atoms-skip            and of no other kind
--     atoms-silent          so the rules of 4, 5 and 6 are silent
--     atoms_refused_when    and a line is refused by the others
-- Assumes nothing.
use Prim.Native.Nat.{ℕ, ◌<◌}
use mathlib.Core.Path.{◌≡◌, refl, sym, ap, ◌∙◌}
use mathlib.Core.Logic.Iff
use mathlib.Core.Logic.{◌≢◌, ◌↔◌, ◌⊎◌, inl, inr, ⊎_elim}
use mathlib.Core.Bool.{Bool, true, false, cond, ◌&&◌}
use mathlib.Core.List.{List, [], ◌∷◌}
use Rattle.std.specs.Prelude.{Result, Ok, Err}
use native.Mathlib.Omega.{arith}
use borrow.Author.Tests.{ltb-true}
use lib.Dec.{T, ltb}
use lib.Ieee.Bits.{is_true}
use lib.Ieee.Fits.{and_l, and_r}
use Rattle.number.proofs.Laws.Choice.{clash}
use Rattle.line.specs.Faults.{no_faults, listed}
use Rattle.lexitem.specs.Fault.{no_line_faults, stamped_as, told}
use Rattle.lexitem.specs.declared.answer.Answer.{Answer}
use Rattle.lexitem.specs.declared.answer.Refusal.{Refusal}
use Rattle.lexitem.specs.declared.item.LexItem.{LexItem}
use Rattle.kind.specs.Name.{kept_by_atoms}
use Rattle.kind.specs.declared.Kind.{Kind}
use Rattle.kind.specs.declared.Kind.TheVariants.{Header, Remark}
use Rattle.kind.proofs.Laws.Number.{by_kind}
use Rattle.lexitem.specs.Answer.{refusal}
use Rattle.lexitem.specs.Describe.{item_of}
use Rattle.lexer.specs.Lexed.{refused, accepted, first_of, lexed, lexed_as, kind_asked}
use Rattle.lexer.specs.Refusals.{Input, Test, Asking, kind, given, tests}
use Rattle.lexer.specs.Refusals.Asking.{its_kind, its_record, record_as}
use Rattle.promises.specs.Refusing.{numbers_of, Rule, Least, Silent, First, Passed, OneOf, Refuses, Answers, reading, numbers, rules, table_rule, length_rule, byte_rule, kind_rule, header_rule, remark_rule, least_rule}
use Rattle.promises.proofs.Laws.Agreeing.{AllAgree, rules-agree}

-- ---- the first row that holds is the first rule that does
-- what holds of every refusal and of what stands behind them holds of the answer
first_any : {A : Type 0} (P : A → Type 0) (refuse : Refusal → A) (else : A) → ((r : Refusal) → P (refuse r)) → P else
    → (xs : List Test) → P (first_of refuse xs else)
first_any P refuse else each last [] = last
first_any P refuse else each last (x ∷ xs) = go x.holds (first_any P refuse else each last xs)
  where
    go : (b : Bool) → P (first_of refuse xs else) → P (cond b (refuse x.gives) (first_of refuse xs else))
    go true ih = each x.gives
    go false ih = ih

-- a part of the answer is the answer of the parts
first_part : {A B : Type 0} (part : A → B) (refuse : Refusal → A) (else : A) (xs : List Test)
    → part (first_of refuse xs else) ≡ first_of (λ r. part (refuse r)) xs (part else)
first_part part refuse else [] = refl
first_part part refuse else (x ∷ xs) = go x.holds (first_part part refuse else xs)
  where
    go : (b : Bool) → part (first_of refuse xs else) ≡ first_of (λ r. part (refuse r)) xs (part else)
        → part (cond b (refuse x.gives) (first_of refuse xs else))
        ≡ cond b (part (refuse x.gives)) (first_of (λ r. part (refuse r)) xs (part else))
    go true ih = refl
    go false ih = ih

-- answers that tell a refusal from another, and from what isn't one
module _ {A : Type 0} (refuse : Refusal → A) (else : A) (tells : (r s : Refusal) → refuse r ≡ refuse s → r ≡ s)
    (apart : (r : Refusal) → refuse r ≡ else → ⊥) where
  first-refused : (xs : List Test) (rs : List Rule) → AllAgree xs rs → (r : Refusal) → (first_of refuse xs else ≡ refuse r) ↔ First rs r
  first-refused [] [] a r = (λ e. absurd (apart r (sym e)), λ h. absurd h)
  first-refused [] (rule ∷ rs) a r = absurd a
  first-refused (x ∷ xs) [] a r = absurd a
  first-refused (x ∷ xs) (rule ∷ rs) a r = go x.holds refl (first-refused xs rs a.1 r)
    where
      go : (b : Bool) → x.holds ≡ b → ((first_of refuse xs else ≡ refuse r) ↔ First rs r)
          → (cond b (refuse x.gives) (first_of refuse xs else) ≡ refuse r) ↔ (rule r ⊎ (Silent rule × First rs r))
      go true e ih = (
        λ h. let g = tells x.gives r h in inl (rw g at (a.0.0 e)),
        ⊎_elim (λ p. ap refuse (sym (a.0.1 r p).1)) (λ p. absurd (p.0 x.gives (a.0.0 e))),
      )
      go false e ih = (
        λ h. inr (λ s p. clash (a.0.1 s p).0 e, ih.0 h),
        ⊎_elim (λ p. absurd (clash (a.0.1 r p).0 e)) (λ p. ih.1 p.1),
      )

  first-passed : (xs : List Test) (rs : List Rule) → AllAgree xs rs → (first_of refuse xs else ≡ else) ↔ Passed rs
  first-passed [] [] a = (λ e. tt, λ h. refl)
  first-passed [] (rule ∷ rs) a = absurd a
  first-passed (x ∷ xs) [] a = absurd a
  first-passed (x ∷ xs) (rule ∷ rs) a = go x.holds refl (first-passed xs rs a.1)
    where
      go : (b : Bool) → x.holds ≡ b → ((first_of refuse xs else ≡ else) ↔ Passed rs)
          → (cond b (refuse x.gives) (first_of refuse xs else) ≡ else) ↔ (Silent rule × Passed rs)
      go true e ih = (λ h. absurd (apart x.gives h), λ h. absurd (h.0 x.gives (a.0.0 e)))
      go false e ih = (λ h. (λ s q. clash (a.0.1 s q).0 e, ih.0 h), λ h. ih.1 h.1)

-- a rule that is silent can be left out, in front of others or behind one
past_silent : (rule : Rule) (rest : List Rule) (r : Refusal) → Silent rule → First (rule ∷ rest) r ↔ First rest r
past_silent rule rest r s = (⊎_elim (λ h. absurd (s r h)) (λ p. p.1), λ h. inr (s, h))

under_rule : (rule : Rule) (s t : List Rule) (r : Refusal) → First s r ↔ First t r → First (rule ∷ s) r ↔ First (rule ∷ t) r
under_rule rule s t r e = (⊎_elim (λ h. inl h) (λ p. inr (p.0, e.0 p.1)), ⊎_elim (λ h. inl h) (λ p. inr (p.0, e.1 p.1)))

-- ---- the numbers
number_is : {r : Refusal} {n place length : ℕ} → r ≡ refusal n place length → r.number ≡ n
number_is e = ap (λ (s : Refusal). s.number) e

abbrev are_above : List ℕ → Bool
are_above [] = true
are_above (m ∷ ms) = ltb 0 m && are_above ms

one-above : (n : ℕ) (ms : List ℕ) → T (are_above ms) → OneOf n ms → 0 < n
one-above n [] h o = absurd o
one-above n (m ∷ ms) h (inl e) = let above = ltb-true 0 m (is_true (ltb 0 m) (and_l (ltb 0 m) (are_above ms) h)) in omega arith
one-above n (m ∷ ms) h (inr o) = one-above n ms (and_r (ltb 0 m) (are_above ms) h) o

-- ---- demand 1
refused-tells : {A : Type 0} (r s : Refusal) → ◌≡◌ {A = Result A Refusal} (Err r) (Err s) → r ≡ s
refused-tells r s e = cc

not_both : {A : Type 0} (r : Refusal) {x : A} → ◌≡◌ {A = Result A Refusal} (Err r) (Ok x) → ⊥
not_both r e = let z : ◌≡◌ {A = ℕ} 0 1 = cc in omega arith

module _ (i : Input) where
  abbrev item : LexItem
  item = item_of (kind i) (given i)

  -- the outcome of an entry that reads
  outcome_is : (a : Asking) → (first_of (refused i) (tests a i) (accepted i)).outcome ≡ first_of Err (tests a i) (Ok item)
  outcome_is a = first_part (λ (b : Answer). b.outcome) (refused i) (accepted i) (tests a i)

  nothing : (a : Asking) (r : Refusal) → (first_of (refused i) (tests a i) (accepted i)).outcome ≡ Err r
      → (first_of (refused i) (tests a i) (accepted i)).faults ≡ no_line_faults
  nothing a r =
      first_any (λ (b : Answer). b.outcome ≡ Err r → b.faults ≡ no_line_faults) (refused i) (accepted i) (λ s e. refl)
      (λ e. absurd (not_both r (sym e)))
      (tests a i)

  through : (a : Asking) → (first_of (refused i) (tests a i) (accepted i)).line ≡ i.number
  through a = first_any (λ (b : Answer). b.line ≡ i.number) (refused i) (accepted i) (λ r. refl) refl (tests a i)

  pub refused_when : (a : Asking) (r : Refusal) → Refuses a i r ↔ First (rules a i) r
  unfolding lexed lexed_as kind_asked
  refused_when its_kind r = first-refused Err (Ok (kind i)) refused-tells (λ s e. not_both s e) (tests its_kind i) (rules its_kind i) (rules-agree i its_kind) r
  refused_when its_record r =
      rw (outcome_is its_record)
      (first-refused Err (Ok item) refused-tells (λ s e. not_both s e) (tests its_record i) (rules its_record i) (rules-agree i its_record) r)
  refused_when (record_as k) r =
      rw (outcome_is (record_as k))
      (first-refused Err (Ok item) refused-tells (λ s e. not_both s e) (tests (record_as k) i) (rules (record_as k) i) (rules-agree i (record_as k)) r)

  pub accepted_exactly : (a : Asking) → Answers a i ↔ Passed (rules a i)
  unfolding lexed lexed_as kind_asked
  accepted_exactly its_kind = first-passed Err (Ok (kind i)) refused-tells (λ s e. not_both s e) (tests its_kind i) (rules its_kind i) (rules-agree i its_kind)
  accepted_exactly its_record =
      rw (outcome_is its_record)
      (first-passed Err (Ok item) refused-tells (λ s e. not_both s e) (tests its_record i) (rules its_record i) (rules-agree i its_record))
  accepted_exactly (record_as k) =
      rw (outcome_is (record_as k))
      (first-passed Err (Ok item) refused-tells (λ s e. not_both s e) (tests (record_as k) i) (rules (record_as k) i) (rules-agree i (record_as k)))

  pub refused_or_accepted : (a : Asking) → ((r : Refusal) × Refuses a i r) ⊎ Answers a i
  unfolding lexed lexed_as kind_asked
  refused_or_accepted its_kind =
      first_any (λ (x : Result Kind Refusal). ((r : Refusal) × (x ≡ Err r)) ⊎ (x ≡ Ok (kind i))) Err (Ok (kind i))
      (λ r. inl (r, refl))
      (inr refl)
      (tests its_kind i)
  refused_or_accepted its_record =
      first_any (λ (x : Answer). ((r : Refusal) × (x.outcome ≡ Err r)) ⊎ (x.outcome ≡ Ok item)) (refused i) (accepted i)
      (λ r. inl (r, refl))
      (inr refl)
      (tests its_record i)
  refused_or_accepted (record_as k) =
      first_any (λ (x : Answer). ((r : Refusal) × (x.outcome ≡ Err r)) ⊎ (x.outcome ≡ Ok item)) (refused i) (accepted i)
      (λ r. inl (r, refl))
      (inr refl)
      (tests (record_as k) i)

  pub refused_once : (a : Asking) (r s : Refusal) → First (rules a i) r → First (rules a i) s → r ≡ s
  refused_once a r s p q = refused-tells r s (sym ((given_by r).1 p) ∙ (given_by s).1 q)
    where
      given_by : (t : Refusal) → (first_of Err (tests a i) (Ok item) ≡ Err t) ↔ First (rules a i) t
      given_by = first-refused Err (Ok item) refused-tells (λ s e. not_both s e) (tests a i) (rules a i) (rules-agree i a)

  pub refusal-numbered : (a : Asking) (r : Refusal) → First (rules a i) r → OneOf r.number (numbers a)
  refusal-numbered its_kind r (inl (none, h)) = absurd none
  refusal-numbered its_kind r (inr (_, inl (t, e))) = inl (number_is e)
  refusal-numbered its_kind r (inr (_, inr (_, inl (p, t, e)))) = inr (inl (number_is e))
  refusal-numbered its_kind r (inr (_, inr (_, inr (_, inl (none, e))))) = absurd none
  refusal-numbered its_kind r (inr (_, inr (_, inr (_, inr (_, inl (none, h)))))) = absurd none
  refusal-numbered its_kind r (inr (_, inr (_, inr (_, inr (_, inr (_, inl (none, h))))))) = absurd none
  refusal-numbered its_kind r (inr (_, inr (_, inr (_, inr (_, inr (_, inr (_, inl (none, h)))))))) = absurd none
  refusal-numbered its_kind r (inr (_, inr (_, inr (_, inr (_, inr (_, inr (_, inr (_, h)))))))) = absurd h
  refusal-numbered its_record r (inl (_, (t, e))) = inl (number_is e)
  refusal-numbered its_record r (inr (_, inl (t, e))) = inr (inl (number_is e))
  refusal-numbered its_record r (inr (_, inr (_, inl (p, t, e)))) = inr (inr (inl (number_is e)))
  refusal-numbered its_record r (inr (_, inr (_, inr (_, inl (none, e))))) = absurd none
  refusal-numbered its_record r (inr (_, inr (_, inr (_, inr (_, inl (_, (k, t, e))))))) = inr (inr (inr (inl (number_is e))))
  refusal-numbered its_record r (inr (_, inr (_, inr (_, inr (_, inr (_, inl (_, (k, t, u, v, e)))))))) = inr (inr (inr (inr (inl (number_is e)))))
  refusal-numbered its_record r (inr (_, inr (_, inr (_, inr (_, inr (_, inr (_, inl (_, (n, k, t, e))))))))) =
      inr (inr (inr (inr (inr (inl (number_is e))))))
  refusal-numbered its_record r (inr (_, inr (_, inr (_, inr (_, inr (_, inr (_, inr (_, h)))))))) = absurd h
  refusal-numbered (record_as k) r (inl (_, (t, e))) = inl (number_is e)
  refusal-numbered (record_as k) r (inr (_, inl (t, e))) = inr (inl (number_is e))
  refusal-numbered (record_as k) r (inr (_, inr (_, inl (p, t, e)))) = inr (inr (inl (number_is e)))
  refusal-numbered (record_as k) r (inr (_, inr (_, inr (_, inl (other, e))))) = inr (inr (inr (inl (number_is e))))
  refusal-numbered (record_as k) r (inr (_, inr (_, inr (_, inr (_, inl (_, (j, t, e))))))) = inr (inr (inr (inr (inl (number_is e)))))
  refusal-numbered (record_as k) r (inr (_, inr (_, inr (_, inr (_, inr (_, inl (_, (j, t, u, v, e)))))))) =
      inr (inr (inr (inr (inr (inl (number_is e))))))
  refusal-numbered (record_as k) r (inr (_, inr (_, inr (_, inr (_, inr (_, inr (_, inl (_, (n, j, t, e))))))))) =
      inr (inr (inr (inr (inr (inr (inl (number_is e)))))))
  refusal-numbered (record_as k) r (inr (_, inr (_, inr (_, inr (_, inr (_, inr (_, inr (_, h)))))))) = absurd h

  pub zero-accepted : (numbers_of (lexed i).outcome).0 ≡ 0 → (x : LexItem) × ((lexed i).outcome ≡ Ok x)
  zero-accepted = go (lexed i).outcome refl
    where
      go : (o : Result LexItem Refusal) → (lexed i).outcome ≡ o → (numbers_of o).0 ≡ 0 → (x : LexItem) × ((lexed i).outcome ≡ Ok x)
      go (Ok x) e z = (x, e)
      go (Err r) e z =
          let n = one-above r.number (numbers its_record) tt (refusal-numbered its_record r ((refused_when its_record r).0 e)) in
          absurd (omega arith)

  pub refused_by_number : (n place length : ℕ) → 0 < n
      → (numbers_of (lexed i).outcome ≡ (n, place, length)) ↔ First (rules its_record i) (refusal n place length)
  refused_by_number n place length some =
      (go (lexed i).outcome refl, λ h. ap numbers_of ((refused_when its_record (refusal n place length)).1 h))
    where
      go : (o : Result LexItem Refusal) → (lexed i).outcome ≡ o → numbers_of o ≡ (n, place, length) → First (rules its_record i) (refusal n place length)
      go (Ok x) e z = let zero : 0 ≡ n = ap (λ (t : ℕ × ℕ × ℕ). t.0) z in absurd (omega arith)
      go (Err r) e z =
          (refused_when its_record (refusal n place length)).0
          (e ∙ ap (λ (t : ℕ × ℕ × ℕ). Err (refusal t.0 t.1 t.2)) z)

  pub refusal-empty : (r : Refusal) → (lexed i).outcome ≡ Err r → (lexed i).faults ≡ no_line_faults
  unfolding lexed
  refusal-empty = nothing its_record

  pub as_refusal_empty : (k : Kind) (r : Refusal) → (lexed_as k i).outcome ≡ Err r → (lexed_as k i).faults ≡ no_line_faults
  unfolding lexed_as
  as_refusal_empty k = nothing (record_as k)

  pub refusal_unlisted : (r : Refusal) → (lexed i).outcome ≡ Err r → told (lexed i).faults ≡ []
  unfolding told stamped_as listed no_faults
  refusal_unlisted r e = rw (refusal-empty r e) refl

  pub line-through : (lexed i).line ≡ i.number
  unfolding lexed
  line-through = through its_record

  pub as_line_through : (k : Kind) → (lexed_as k i).line ≡ i.number
  unfolding lexed_as
  as_line_through k = through (record_as k)

-- ---- atoms only
least_skipped : {k : Kind} {n : ℕ} → Least k n → kept_by_atoms k ≡ false
least_skipped Least.cryst1 = refl
least_skipped Least.modres = refl
least_skipped Least.seqadv = refl
least_skipped Least.ssbond = refl

module _ (i : Input) (only : i.options.atoms ≡ true) where
  pub atoms-kept : kept_by_atoms (kind i) ≡ true
  atoms-kept = rw only (is_true _ (by_kind kept_by_atoms true tt tt tt tt i.options.mode i.line))

  pub atoms-skip : (k : Kind) → kept_by_atoms k ≡ false → kind i ≢ k
  atoms-skip k e h = clash atoms-kept (ap kept_by_atoms h ∙ e)

  pub atoms-silent : Silent (header_rule i) × Silent (remark_rule i) × Silent (least_rule i)
  atoms-silent = (
    λ r h. atoms-skip Header refl h.0,
    λ r h. atoms-skip Remark refl h.0,
    λ r h. atoms-skip (kind i) (least_skipped h.1) refl,
  )

  pub atoms_refused_when : (a : Asking) (r : Refusal)
      → Refuses a i r ↔ First (reading a (table_rule i) ∷ length_rule i ∷ byte_rule i ∷ kind_rule a i ∷ []) r
  atoms_refused_when a r =
      let table = reading a (table_rule i) in
      let header = reading a (header_rule i) in
      let remark = reading a (remark_rule i) in
      let least = reading a (least_rule i) in
      let own = header ∷ remark ∷ least ∷ [] in
      let none = atoms-silent in
      Iff.trans (refused_when i a r)
      (under_rule table (length_rule i ∷ byte_rule i ∷ kind_rule a i ∷ own) (length_rule i ∷ byte_rule i ∷ kind_rule a i ∷ []) r
      (under_rule (length_rule i) (byte_rule i ∷ kind_rule a i ∷ own) (byte_rule i ∷ kind_rule a i ∷ []) r
      (under_rule (byte_rule i) (kind_rule a i ∷ own) (kind_rule a i ∷ []) r
      (under_rule (kind_rule a i) own [] r
      (Iff.trans (past_silent header (remark ∷ least ∷ []) r (λ s h. none.0 s h.1))
      (Iff.trans (past_silent remark (least ∷ []) r (λ s h. none.1 s h.1)) (past_silent least [] r (λ s h. none.2 s h.1))))))))
