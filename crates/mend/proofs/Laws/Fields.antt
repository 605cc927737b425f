-- "A field that was reached and that no change touches reads the same", in every kind and both modes: the law of margins, between a line and the
-- mended one, which may be longer.
--     Reached             the line reaches a field: to its last column; one that ends with the line, if the line isn't padded
--     Untouched           no change touches it
--     untouched           it has the same value
--     untouched-faults    and the same faults
--     untouched-seen      and its text or character shows the same bytes
-- Assumes nothing.
use Prim.Native.Nat.{ℕ, ◌+◌, ◌-◌, ◌<◌, ◌≤◌}
use mathlib.Core.Path.{◌≡◌, sym, ◌∙◌}
use mathlib.Core.Bool.{Bool, true, false}
use mathlib.Core.List.{List}
use native.Mathlib.Omega.{arith}
use borrow.Author.Tests.{lt-ltb, le-ltb, le-leb}
use lib.ListN.{length}
use lib.Dec.{ltb, leb}
use Rattle.field.specs.Table.{Entry, faults_by}
use Rattle.field.specs.Table.Entry.{u, i, r, t, c, c?, a, u-rest, x, t_within, t-rest, t-end, charge, known, given, unwritten, triples}
use Rattle.lexitem.specs.Shown.{shown_by}
use Rattle.line.specs.declared.options.Options.{Options}
use Rattle.margins.specs.Taken.{takes}
use Rattle.margins.proofs.Laws.Entries.{on, Level, Same, same_entry, fault_entry}
use Rattle.margins.proofs.Laws.Views.{in_place, AllSeen, seen_entry}
use Rattle.mend.specs.Mend.{padding, mended}
use Rattle.mend.specs.Changes.{changes_of, named}
use Rattle.mend.proofs.Laws.Mended.{mended-length}
use Rattle.mend.proofs.Laws.Changes.{unnamed_same}

abbrev pub Reached : List ℕ → Entry → Type 0
Reached l (u at) = at.end ≤ length l
Reached l (i at) = at.end ≤ length l
Reached l (r at default) = at.end ≤ length l
Reached l (t at) = at.end ≤ length l
Reached l (c at) = at.start < length l
Reached l (c? at) = at.start < length l
Reached l (a at) = at.end ≤ length l
Reached l (x at) = at.start + (at.end - at.start) ≤ length l
Reached l (charge at) = at.end ≤ length l
Reached l (known at) = at.end ≤ length l
Reached l (given column) = column < length l
Reached l (unwritten column) = Unit {0}
Reached l (u-rest start) = padding l ≡ 0
Reached l (t_within at) = padding l ≡ 0
Reached l (t-rest start) = padding l ≡ 0
Reached l (t-end start) = padding l ≡ 0
Reached l (triples start) = padding l ≡ 0

module _ (l : List ℕ) where
  longer : length l ≤ length (mended l)
  longer = omega (arith, mended-length l)

  both-reach : (n : ℕ) → n ≤ length l → ltb (length l) n ≡ ltb (length (mended l)) n
  both-reach n h = let k = longer in le-ltb (length l) n h ∙ sym (le-ltb (length (mended l)) n (omega arith))

  both_have : (n : ℕ) → n < length l → ltb n (length l) ≡ ltb n (length (mended l))
  both_have n h = let k = longer in lt-ltb n (length l) h ∙ sym (lt-ltb n (length (mended l)) (omega arith))

  both_end : (n : ℕ) → n ≤ length l → leb n (length l) ≡ leb n (length (mended l))
  both_end n h = let k = longer in le-leb n (length l) h ∙ sym (le-leb n (length (mended l)) (omega arith))

  as_long : padding l ≡ 0 → length l ≡ length (mended l)
  as_long e = omega (arith, mended-length l)

  reached-level : (e : Entry) → Reached l e → Level l (mended l) e
  reached-level (u at) h = both-reach at.end h
  reached-level (i at) h = both-reach at.end h
  reached-level (r at default) h = both-reach at.end h
  reached-level (t at) h = both-reach at.end h
  reached-level (c at) h = both_have at.start h
  reached-level (c? at) h = both_have at.start h
  reached-level (a at) h = both-reach at.end h
  reached-level (x at) h = both_end (at.start + (at.end - at.start)) h
  reached-level (charge at) h = both-reach at.end h
  reached-level (known at) h = both-reach at.end h
  reached-level (given column) h = tt
  reached-level (unwritten column) h = tt
  reached-level (u-rest start) h = as_long h
  reached-level (t_within at) h = as_long h
  reached-level (t-rest start) h = as_long h
  reached-level (t-end start) h = as_long h
  reached-level (triples start) h = as_long h

  abbrev pub Untouched : Entry → Type 0
  Untouched e = (column : ℕ) → takes e column ≡ true → named (changes_of l) column ≡ false

  module _ (e : Entry) (reached : Reached l e) (h : Untouched e) where
    pub untouched : (taken : Bool) → Same l (mended l) taken e
    untouched taken = same_entry l (mended l) taken e (reached-level e reached) (λ column p. unnamed_same l column (h column p))

    module _ (options : Options) (remarks : List ℕ) where
      pub untouched-faults : faults_by (on options remarks l) e ≡ faults_by (on options remarks (mended l)) e
      untouched-faults = fault_entry l (mended l) options remarks e (reached-level e reached) (λ column p. unnamed_same l column (h column p))

      pub untouched-seen : in_place e ≡ true → AllSeen l (mended l) (shown_by (on options remarks l) e)
      untouched-seen w =
          seen_entry l (mended l) options remarks e w (reached-level e reached) (λ column p. unnamed_same l column (h column p))
