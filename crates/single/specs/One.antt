-- What it is for a contract to leave one answer. It is said of the contract itself, as the checker makes it of a function's clauses: `ended`, the
-- signature with what is spoken of at exit, and `clauses`. Whatever is lent to be written has a last value at exit (`Lasts`): bytes, words or a
-- struct. That there is an answer is the function's own theorem.
use Rattle.std.specs.Prelude.{◌≡◌}
use seplogic.Ra.Ura.{Ura}
use base.Logic.{SProp, ent, emp}
use prog.Memory.{Memory}
use prog.Routine.{Routine}
use types.Logic.{Logic}
use contract.Lifetimes.{Lfts}
use contract.Monad.{Fun, conj, fact}
use denote.Triple.Entry.{Args, Res}
use denote.Triple.Clauses.{Ended, Clauses, ClausesAt, Lasts, at_exit}
use borrow.Fn.World.{World}

-- a contract: its clauses in any model of the logic
abbrev pub Contract : Ended → Type 2
Contract T = (M : Type 1) (𝓤 : Ura M) (𝓛 : Logic 𝓤) → (Memory → SProp 𝓤) → (Routine → Fun 𝓤) → Clauses 𝓤 T

abbrev Lives : Ended → Type 0
Lives T = Lfts T.signature.lifetimes

module _ (T : Ended) (c : Contract T) where
  -- its clauses in a model, for the lifetimes and the arguments of a call
  abbrev pub clauses_at : (w : World) (κs : Lives T) → Args T.signature κs → ClausesAt w.𝓤 T κs
  clauses_at w κs a = c w.M w.𝓤 w.𝓛 w.𝓜.mem w.𝓡.run κs a

  -- For every call nothing is asked, and where an answer is allowed with last values, and another with others, the two are seen to be equal, and so
  -- are all last values.
  abbrev pub OneBy : {X : Lives T → Type 0} → ((κs : Lives T) → Res T.signature κs → X κs) → Type 2
  OneBy see =
      (w : World) (κs : Lives T) (a : Args T.signature κs) (g : (clauses_at w κs a).ghost) →
      ent w.𝓤 (emp w.𝓤) ((clauses_at w κs a).requires g)
      × ((r s : Res T.signature κs) (u v : Lasts T κs a) →
      ent w.𝓤 (conj w.𝓤 ((clauses_at w κs a).ensures g r (at_exit T κs a u)) ((clauses_at w κs a).ensures g s (at_exit T κs a v)))
      (fact w.𝓤 ((see κs r ≡ see κs s) × (u ≡ v))))

  -- the same of answers as they are
  abbrev pub One : Type 2
  One = OneBy (λ κs r. r)

  -- The same of a function that is handed a closure: nothing is asked of a call but what `asked` says, and where `told` holds of it, two answers that
  -- are allowed are equal, and so are all last values.
  abbrev pub OneWhere : (asked told : (κs : Lives T) → Args T.signature κs → Type 0) → Type 2
  OneWhere asked told =
      (w : World) (κs : Lives T) (a : Args T.signature κs) (g : (clauses_at w κs a).ghost) →
      (asked κs a → ent w.𝓤 (emp w.𝓤) ((clauses_at w κs a).requires g))
      × (told κs a → (r s : Res T.signature κs) (u v : Lasts T κs a) →
      ent w.𝓤 (conj w.𝓤 ((clauses_at w κs a).ensures g r (at_exit T κs a u)) ((clauses_at w κs a).ensures g s (at_exit T κs a v)))
      (fact w.𝓤 ((r ≡ s) × (u ≡ v))))

  -- What the contract says of any answer that it allows: at least `told`.
  abbrev pub Says : ((κs : Lives T) → Args T.signature κs → Res T.signature κs → Type 0) → Type 2
  Says told =
      (w : World) (κs : Lives T) (a : Args T.signature κs) (g : (clauses_at w κs a).ghost) (r : Res T.signature κs) (u : Lasts T κs a) →
      ent w.𝓤 ((clauses_at w κs a).ensures g r (at_exit T κs a u)) (fact w.𝓤 (told κs a r))
