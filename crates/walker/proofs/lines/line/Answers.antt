-- `walker::lines::line` meets its contract: the bytes are those that `get` finds, and none where it finds none.
-- Assumes nothing.
use Rattle.std.proofs.Common.{ℕ, ◌+◌, ◌<◌, ◌≤◌, ◌≡◌, List, [], length, refl, sym, ap, ◌∙◌, Some, None, Option, Bor, ◌⊎◌}
use Rattle.std.specs.Option.{MatchOption, unwrap_or}
use Rattle.std.specs.List.{slice_range}
use Rattle.walker.specs.Lines.{part_of}
use Rattle.walker.proofs.Laws.Lines.{part-inside, part-outside}
use Rattle.walker.proofs.lines.line.Goals as goal

found : (f : List ℕ) (start end : ℕ) (o : Option (Bor (List ℕ))) (none r : Bor (List ℕ)) → none.now ≡ []
    → MatchOption o ((end < start) ⊎ (length f < end)) (λ x. (start ≤ end) × (end ≤ length f) × (x.now ≡ slice_range f start end) × (length x.now + start ≡ end))
    → r ≡ unwrap_or o none → r.now ≡ part_of f start end
found f start end None none r z m e = ap (λ (x : Bor (List ℕ)). x.now) e ∙ z ∙ sym (part-outside f start end m)
found f start end (Some x) none r z m e = ap (λ (x : Bor (List ℕ)). x.now) e ∙ m.2 ∙ sym (part-inside f start end m.0 m.1)

pub returns : goal.returns
returns c = found _ _ _ _ _ _ refl c.get.ensures.lookup.0 c.unwrap_or.ensures
