-- `bench_read::saltighedda_bench` meets its contract. The loop's invariant: the sum over the lines that are left, on top of the sum so far, is the
-- file's; and no more lines have gone before than bytes.
-- Assumes nothing.
use Rattle.std.proofs.Common.{◌≡◌, ℕ, ◌+◌, ◌≤◌, List, length, drop, sym, refl, ap, ◌∙◌, arith, rules}
use Rattle.lexer.specs.Lexed.{lexed}
use Rattle.walker.specs.Lines.{lines_of, part_of}
use Rattle.bench_read.specs.Checksum.{mixed_answer, plain_input, checksum_from, checksum_of}
use Rattle.walker.proofs.Laws.Lines.{Served, step-served, step_end, end-lines}
use Rattle.bench_read.proofs.saltighedda_bench.Goals as goal

-- one line more
summed : (f : List ℕ) (at start end next count sum more : ℕ) (text : List ℕ)
    → Served f at start end next → text ≡ part_of f start end → more ≡ mixed_answer sum (lexed (plain_input text (count + 1)))
    → checksum_from count sum (lines_of (drop at f)) ≡ checksum_of f
    → checksum_from (count + 1) more (lines_of (drop next f)) ≡ checksum_of f
unfolding checksum_from
summed f at start end next count sum more text s e g v =
    rw (g, e, s.part) (sym (ap (checksum_from count sum) s.lines) ∙ v)

-- no line more
done : (f : List ℕ) (at count sum : ℕ) → length f ≤ at → checksum_from count sum (lines_of (drop at f)) ≡ checksum_of f → sum ≡ checksum_of f
unfolding checksum_from
done f at count sum h v = sym (ap (checksum_from count sum) (end-lines f at h)) ∙ v

pub loop-start-init : goal.loop-start-init
unfolding checksum_of
loop-start-init c = (search rules, search rules, refl)

pub loop-start-smaller : goal.loop-start-smaller
loop-start-smaller c =
    let s = step-served _ _ _ (sym c.line_at.ensures ∙ c.in-Some.is) in
    omega arith

pub loop-start-preserved : goal.loop-start-preserved
loop-start-preserved c =
    let s = step-served _ _ _ (sym c.line_at.ensures ∙ c.in-Some.is) in
    let l = c.loop-start in
    (omega arith, omega arith, summed _ _ _ _ _ _ _ _ _ s c.line-text.ensures c.mixed_line-sum.ensures l.invariant.2)

pub returns : goal.returns
returns c = done _ _ _ _ ((step_end _ _).0 (sym c.line_at.ensures ∙ c.in_default.is)) c.loop-start.invariant.2
