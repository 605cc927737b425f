-- "P1 to P12 are one list of cases with a single theorem about it": every claim of every case is found, each by computing the answer.
--     edges-found        P1 to P12
--     defaults-found     a case for each default, with the sort of each number field
--     readings-found     triples, a residue of the database, trimming, the digits after a point
-- each with the option for exponents on and off: no case has an exponent in a real field, so the answers are the same
--     exponents-found    the cases of 2026-10
--     zero_far           a zero is read however large its exponent is: this one isn't computed, since its power isn't
-- One line of a proof is one case, in the list's order, so that a failure names its case. Assumes nothing.
use mathlib.Core.Path.{◌≡◌, refl, ◌∙◌}
use mathlib.Core.Bool.{Bool, true, false, ◌&&◌}
use mathlib.Core.List.{List, [], ◌∷◌}
use lib.Ieee.{binary64, div, neg, of_int, of_bits, round}
use Rattle.std.specs.Prelude.{Some}
use Rattle.number.specs.Trim.{white, leading, kept, end_trimmed, trimmed, span_of}
use Rattle.number.specs.Whole.{digit, digits, value_from, begins, after_plus, after_sign, digits_of, unsigned_of, signed_digits, signed_of}
use Rattle.number.specs.Decimal.{plain as number, before_point, behind_point, without_point, plain_of, decimal_of}
use Rattle.number.specs.Wide.{wide, mark, mark_at, marked_parts, marked_in, marked_of, wide_of}
use Rattle.real.specs.Double.{double_of}
use Rattle.real.specs.Real.{real, real_of, ten_thousandth, ten_thousandths_of}
use Rattle.real.specs.Wide.{nearest_to, real_with}
use Rattle.real.proofs.Laws.WideReal.{wide-zero}
use Rattle.line.specs.Columns.{part_of, reached_of, rest_of}
use Rattle.line.specs.Faults.{no_faults, noted, listed}
use Rattle.field.specs.Number.{number_faults, unsigned_at, signed_at, real_at, places_at, factor_at, unsigned_from, unsigned_from_faults}
use Rattle.field.specs.Text.{text_at, text_faults, text_within, text_from, end_text_from, character_at, optional_at, character_faults}
use Rattle.field.specs.Charge.{both_blank, charged, charge_of, charge_faults_of, charge_at, charge_faults}
use Rattle.field.specs.Remark.{is_known, known_faults}
use Rattle.seqadv.specs.Seqadv.{blanks, has_target}
use Rattle.seqres.specs.Seqres.{blank_triple, triples_from}
use Rattle.kind.specs.Kind.{kind_of}
use Rattle.lexitem.specs.Describe.{faults_of}
use Rattle.lexitem.specs.Fault.{stamped_as, told}
use Rattle.lexer.specs.Refusals.{plain}
use Rattle.lexer.specs.Lexed.{lexed}
use Rattle.promises.specs.Edges.{Case, CasesFound, cases_with, edges, exponents}
use Rattle.promises.specs.Defaults.{defaults, readings}
use Rattle.promises.specs.Idle.{idle}
use Rattle.promises.proofs.Laws.Idle.{exponents-idle}
use Rattle.number.proofs.Laws.Choice.{and_left, and_right}
use Rattle.line.specs.Bytes.{bytes}
use Rattle.lexer.specs.Refusals.{Input}

-- all that an answer computes through, from the numbers up
unfoldable opened : Unit {0}
unfolding
    white leading kept end_trimmed trimmed span_of digit digits value_from begins after_plus after_sign digits_of unsigned_of signed_digits signed_of
    before_point behind_point without_point plain_of decimal_of double_of real_of ten_thousandth ten_thousandths_of div neg of_int of_bits
    mark mark_at marked_parts marked_in marked_of wide_of nearest_to real_with round
    part_of reached_of rest_of no_faults noted listed stamped_as told
    number_faults unsigned_at signed_at real_at places_at factor_at unsigned_from unsigned_from_faults
    text_at text_faults text_within text_from end_text_from character_at optional_at character_faults
    both_blank charged charge_of charge_faults_of charge_at charge_faults is_known known_faults
    blanks has_target blank_triple triples_from kind_of faults_of plain lexed
opened = tt

infixr 5 ◌&◌
abbrev ◌&◌ : {A B : Type 0} → A → B → A × B
a & b = (a, b)

edges-off : CasesFound (cases_with false edges)
unfolding opened
edges-off =
    -- P1
    (refl & tt)
    -- P2
    & (refl & tt)
    & (refl & tt)
    -- P3
    & (refl & tt)
    & (refl & tt)
    & (refl & tt)
    & (refl & tt)
    & (refl & tt)
    & (refl & tt)
    -- P4
    & (refl & tt)
    & (refl & tt)
    -- P5
    & ((_, refl, refl) & refl & tt)
    & ((_, refl, refl) & refl & tt)
    & ((_, refl, refl) & refl & tt)
    & ((_, refl, refl) & refl & tt)
    & ((_, refl, refl) & refl & tt)
    -- P6
    & ((_, refl, refl) & refl & tt)
    & ((_, refl, refl) & refl & tt)
    & ((_, refl, refl) & refl & tt)
    -- P7
    & ((_, refl, refl) & (_, refl, refl) & (_, refl, refl) & (_, refl, refl) & refl & tt)
    -- P8
    & ((_, refl, refl) & refl & tt)
    & ((_, refl, refl) & refl & tt)
    & ((_, refl, refl) & refl & tt)
    -- P9
    & (refl & tt)
    & ((_, refl, refl) & refl & tt)
    & ((_, refl, refl) & refl & tt)
    -- P10
    & ((_, refl, refl) & refl & tt)
    & (refl & tt)
    & ((_, refl, refl) & refl & tt)
    -- P11
    & (refl & tt)
    & (refl & tt)
    -- P12
    & ((_, refl, refl) & refl & tt)
    & ((_, refl, refl) & refl & tt)
    & tt

defaults-off : CasesFound (cases_with false defaults)
unfolding opened
defaults-off =
    -- ATOM, HETATM, ANISOU
    (refl & refl & tt)
    & (refl & tt)
    & ((_, refl, refl) & refl & tt)
    & (refl & refl & tt)
    & (refl & tt)
    -- CRYST1
    & (refl & refl & tt)
    -- SCALE, ORIGX, MTRIX
    & (refl & refl & tt)
    & (refl & refl & tt)
    & (refl & refl & tt)
    & (refl & refl & tt)
    & ((_, refl, refl) & tt)
    -- MODEL, MASTER, SEQRES
    & (refl & refl & tt)
    & (refl & refl & tt)
    & (refl & refl & tt)
    & (refl & refl & tt)
    & (refl & tt)
    -- DBREF, DBREF1, DBREF2
    & (refl & refl & tt)
    & (refl & refl & tt)
    & (refl & refl & tt)
    & (refl & tt)
    & (refl & tt)
    & (refl & refl & tt)
    -- SEQADV, MODRES
    & (refl & refl & tt)
    & (refl & refl & tt)
    & (refl & refl & tt)
    -- SSBOND
    & (refl & refl & tt)
    & (refl & refl & tt)
    -- REMARK, HEADER
    & (refl & refl & tt)
    & (refl & refl & tt)
    & (refl & refl & tt)
    & (refl & refl & tt)
    & (refl & refl & tt)
    & tt

readings-off : CasesFound (cases_with false readings)
unfolding opened
readings-off =
    -- triples
    ((_, refl, refl) & refl & tt)
    & ((_, refl, refl) & refl & tt)
    & ((_, refl, refl) & refl & tt)
    -- a residue of the database
    & (refl & refl & tt)
    & (refl & refl & tt)
    & (refl & refl & tt)
    & (refl & refl & tt)
    -- a text's ends
    & ((_, refl, refl) & refl & tt)
    & ((_, refl, refl) & tt)
    -- trim
    & ((_, refl, refl) & refl & tt)
    & ((_, refl, refl) & refl & tt)
    & ((_, refl, refl) & refl & tt)
    -- places
    & ((_, refl, refl) & refl & tt)
    & ((_, refl, refl) & refl & tt)
    & tt

-- ---- with the option on
abbrev input_of : Case → Input
input_of c = record { line = c.line; number = 0; options = c.options; remarks = c.remarks }

abbrev all_idle : List Case → Bool
all_idle [] = true
all_idle (c ∷ rest) = idle (input_of c) && all_idle rest

cases-either : (cases : List Case) → all_idle cases ≡ true → CasesFound (cases_with false cases) → (on : Bool) → CasesFound (cases_with on cases)
cases-either [] e h on = tt
cases-either (c ∷ rest) e h on = (
  rw (exponents-idle (input_of c) on (and_left (idle (input_of c)) (all_idle rest) e)) h.0,
  cases-either rest (and_right (idle (input_of c)) (all_idle rest) e) h.1 on,
)

edges-idle : all_idle edges ≡ true
unfolding opened
edges-idle = refl

defaults-idle : all_idle defaults ≡ true
unfolding opened
defaults-idle = refl

readings-idle : all_idle readings ≡ true
unfolding opened
readings-idle = refl

pub edges-found : (on : Bool) → CasesFound (cases_with on edges)
edges-found = cases-either edges edges-idle edges-off

pub defaults-found : (on : Bool) → CasesFound (cases_with on defaults)
defaults-found = cases-either defaults defaults-idle defaults-off

pub readings-found : (on : Bool) → CasesFound (cases_with on readings)
readings-found = cases-either readings readings-idle readings-off

pub exponents-found : CasesFound exponents
unfolding opened
exponents-found =
    ((_, refl, refl) & (_, refl, refl) & (_, refl, refl) & (_, refl, refl) & refl & tt)
    & ((_, refl, refl) & (_, refl, refl) & (_, refl, refl) & (_, refl, refl) & refl & tt)
    & ((_, refl, refl) & (_, refl, refl) & (_, refl, refl) & (_, refl, refl) & refl & tt)
    & ((_, refl, refl) & (_, refl, refl) & (_, refl, refl) & (_, refl, refl) & refl & tt)
    & ((_, refl, refl) & (_, refl, refl) & (_, refl, refl) & (_, refl, refl) & refl & tt)
    & ((_, refl, refl) & (_, refl, refl) & (_, refl, refl) & (_, refl, refl) & refl & tt)
    & ((_, refl, refl) & (_, refl, refl) & (_, refl, refl) & (_, refl, refl) & refl & tt)
    & ((_, refl, refl) & refl & tt)
    & ((_, refl, refl) & (_, refl, refl) & refl & tt)
    & ((_, refl, refl) & refl & tt)
    & tt

pub zero_far : real_with true (bytes "0e99999999") ≡ Some (real (of_bits binary64 0) 0)
unfolding real_with
zero_far = rw says (wide-zero false 0 0 false 99999999 refl) ∙ same
  where
    says : wide_of (bytes "0e99999999") ≡ Some (wide (number false 0 0) false 99999999)
    says = unfold opened in refl

    same : Some (real (nearest_to false 0 0 0) 0) ≡ Some (real (of_bits binary64 0) 0)
    same = unfold opened in refl
