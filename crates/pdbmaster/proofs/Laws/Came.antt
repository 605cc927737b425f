-- Part behind part, and the end.
--     came-first, came-next, came-end     before the first read, behind one, and at the end of the input
--     came-tells                          what is put then is the verdict of the whole
-- Assumes nothing.
use Prim.Native.Nat.{ℕ, ◌+◌, ◌-◌, ◌*◌, ◌^◌, ◌<◌}
use mathlib.Core.Path.{◌≡◌, refl, sym, ap, ◌∙◌}
use mathlib.Core.List.{List, [], ◌∷◌, ◌++◌}
use native.Mathlib.Omega.{arith}
use lib.ListN.{length, take, length-append, length-take}
use lib.Seq.{take_at}
use Rattle.audit.specs.Cuts.{Progress, behind_part, behind_parts, start, last_watch, Watches}
use Rattle.audit.specs.Watch.{judged_by}
use Rattle.audit.specs.Audit.{Checked}
use Rattle.audit.specs.declared.feed.Watched.{Watched}
use Rattle.audit.specs.declared.watch.Watch.{Watch}
use Rattle.carry.specs.Pieces.{joined}
use Rattle.page.specs.Page.{Page, page, put}
use Rattle.page.proofs.Laws.Page.{put_count, put_front}
use Rattle.verdict.specs.Verdict.{verdict_of}
use Rattle.verdict.proofs.Laws.Cuts.{cuts_verdict}
use Rattle.verdict.proofs.Laws.Short.{verdict-short}
use Rattle.pdbmaster.specs.Came.{most, Came, Tells}

behind-append : (x : Progress) (ps : List (List ℕ)) (a : List ℕ) → behind_parts x (ps ++ a ∷ []) ≡ behind_part (behind_parts x ps) a
unfolding behind_parts
behind-append x [] a = refl
behind-append x (b ∷ ps) a = behind-append (behind_part x b) ps a

joined_length : (ps : List (List ℕ)) (a : List ℕ) → length (joined (ps ++ a ∷ [])) ≡ length (joined ps) + length a
unfolding joined
joined_length [] a = omega (arith, length-append a [])
joined_length (b ∷ ps) a = omega (arith, length-append b (joined (ps ++ a ∷ [])), length-append b (joined ps), joined_length ps a)

pub came-first : (reads : ℕ) → most * reads < 2 ^ 64 → Came start reads
unfolding behind_parts joined
came-first reads h = record { parts = []; leave = refl; few = omega arith }

-- what a part leaves is what is known and held behind it
module _ (x : Progress) (space kept : List ℕ) (n reads : ℕ) (r : Watched) (came : Came x reads) (some : 0 < reads) (size : length space ≡ most)
    (w : Watches (behind_part x (take n space)) kept r) where
  made : ◌≡◌ {A = Progress} (record { watch = r.watch; state = record { held = r.held; kept = kept } }) (behind_part x (take n space))
  made = rw (w.answer, w.keeps) refl

  pub came-next : Came (record { watch = r.watch; state = record { held = r.held; kept = kept } }) (reads - 1)
  came-next =
      let few = came.few in
      record {
        parts = came.parts ++ take n space ∷ [];
        leave = made ∙ ap (λ (y : Progress). behind_part y (take n space)) came.leave ∙ sym (behind-append start came.parts (take n space));
        few = omega (arith, joined_length came.parts (take n space), length-take n space);
      }

pub came-end : (x : Progress) (reads : ℕ) → Came x reads → Came x 0
came-end x reads c = let few = c.few in record { parts = c.parts; leave = c.leave; few = omega arith }

-- what is put
module _ (x : Progress) (w : Watch) (c : Checked) (before after : List ℕ) (n : ℕ) (last : w ≡ last_watch x.watch x.state) (judged : c ≡ judged_by w)
    (e : page after n ≡ put (page before 0) (verdict_of c)) (size : length before ≡ 4096) where
  front : take n after ≡ verdict_of c
  front =
      let short = verdict-short c in
      let count : n ≡ length (verdict_of c) = ap (λ (p : Page). p.at) e ∙ put_count before (verdict_of c) (omega arith) in
      let bytes = ap (λ (p : Page). p.bytes) e ∙ put_front before (verdict_of c) (omega arith) (omega arith) in
      rw (count, bytes) (take_at (verdict_of c) _ _ refl)

  pub came-tells : Came x 0 → Tells x (take n after)
  came-tells came =
      let few = came.few in
      record {
        parts = came.parts;
        leave = came.leave;
        says = front ∙ ap verdict_of judged ∙ ap (λ (y : Watch). verdict_of (judged_by y)) last
            ∙ ap (λ (y : Progress). verdict_of (judged_by (last_watch y.watch y.state))) came.leave ∙ cuts_verdict came.parts (omega arith);
      }
