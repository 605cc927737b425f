-- The contract of each public function asks nothing and leaves one answer, with one content of all that is lent to be written. `Got::map`, which is
-- handed a closure, asks no more than a call of it does, and leaves one answer where it does.
-- Assumes nothing.
use mathlib.Core.Path.{◌≡◌, refl, sym, ◌∙◌}
use base.Logic.{emp}
use contract.Monad.{fact_i}
use contract.BorrowLft.{◌⊑◌}
use denote.RattleType.{RattleType}
use mir.Syntax.{Dict}
use Rattle.single.specs.One.{One, OneBy, OneWhere, Says}
use Rattle.single.proofs.Laws.One.{equation, asks, says, answers}
use Rattle.line.specs.declared.fault.Got.{Got}
use Rattle.line.specs.contracts as its

pub columns_new_one : One its.columns.Columns.new.ended (λ M 𝓤. its.columns.Columns.new.clauses)
columns_new_one w κs a g = equation w (λ u v. refl)

pub columns_width_one : One its.columns.Columns.width.ended (λ M 𝓤. its.columns.Columns.width.clauses)
columns_width_one w κs a g = equation w (λ u v. refl)

pub columns_part_one : OneBy its.columns.Columns.part.ended (λ M 𝓤. its.columns.Columns.part.clauses) (λ κs. (λ x. x.now))
columns_part_one w κs a g = equation w (λ u v. refl)

pub columns_reached_one : OneBy its.columns.Columns.reached.ended (λ M 𝓤. its.columns.Columns.reached.clauses) (λ κs. (λ x. x.now))
columns_reached_one w κs a g = equation w (λ u v. refl)

pub from_column_one : OneBy its.columns.from_column.ended (λ M 𝓤. its.columns.from_column.clauses) (λ κs. (λ x. x.now))
from_column_one w κs a g = equation w (λ u v. refl)

pub faultkind_number_one : One its.fault.FaultKind.number.ended (λ M 𝓤. its.fault.FaultKind.number.clauses)
faultkind_number_one w κs a g = equation w (λ u v. refl)

pub fault_new_one : One its.fault.Fault.new.ended (λ M 𝓤. its.fault.Fault.new.clauses)
fault_new_one w κs a g = equation w (λ u v. refl)

pub faults_none_one : One its.fault.Faults.none.ended (λ M 𝓤. its.fault.Faults.none.clauses)
faults_none_one w κs a g = equation w (λ u v. refl)

pub faults_note_one : One its.fault.Faults.note.ended (λ M 𝓤. its.fault.Faults.note.clauses)
faults_note_one w κs a g = equation w (λ u v. refl)

pub text_new_one : One its.text.Text.new.ended (λ M 𝓤. its.text.Text.new.clauses)
text_new_one w κs a g = equation w (λ u v. refl)

pub view_one : OneBy its.text.view.ended (λ M 𝓤. its.text.view.clauses) (λ κs. (λ x. x.now))
view_one w κs a g = equation w (λ u v. refl)

-- `Got::map` asks what its closure asks, of the value, and leaves one answer where the closure does: so its two clauses say.
pub got_map_one : {T U : Type 0} (post : T → U → Type 0) → ((x : T) (y z : U) → post x y → post x z → y ≡ z) → (g : Got T) (r s : Got U)
    → post g.value r.value × (r.faults ≡ g.faults) → post g.value s.value × (s.faults ≡ g.faults) → r ≡ s
got_map_one post one g r s p q = λ i. record { value = one g.value r.value s.value p.0 q.0 i; faults = (p.1 ∙ sym q.1) i }

-- The same of its own contract: nothing is asked but that the closure may be called at the value, which that call alone would ask too, and that the
-- types outlive the call, as Rust has it of every call; and where the closure's answers at the value are one, so are those of `map`.
pub got_map_called_one : (T U F : RattleType) (f : its.fault.Got.map.F-FnOnce.Ghosts T U F) (d e : Dict)
    → OneWhere (its.fault.Got.map.ended T U F f d e) (λ M 𝓤. its.fault.Got.map.clauses T U F f d e)
    (λ κs a. (κs.0 ⊑ T.lives) × (κs.1.0 ⊑ U.lives) × (κs.1.1.0 ⊑ F.lives) × f.pre a.1.0 (a.0.value, tt))
    (λ κs a. (r s : U.Denot) → f.post a.1.0 (a.0.value, tt) r → f.post a.1.0 (a.0.value, tt) s → r ≡ s)
got_map_called_one T U F f d e w κs a g = (
  λ p. asks w _ p.0 (asks w _ p.1 (asks w _ p.2 (fact_i w.𝓤 _ (emp w.𝓤) p.3))),
  λ one r s u v. answers w (λ p q. (λ i. record { value = one r.value s.value p.0 q.0 i; faults = (p.1 ∙ sym q.1) i }, refl)),
)

-- And which answer that is: what the closure makes of the value, with the same faults.
pub got_map_keeps : (T U F : RattleType) (f : its.fault.Got.map.F-FnOnce.Ghosts T U F) (d e : Dict)
    → Says (its.fault.Got.map.ended T U F f d e) (λ M 𝓤. its.fault.Got.map.clauses T U F f d e)
    (λ κs a r. f.post a.1.0 (a.0.value, tt) r.value × (r.faults ≡ a.0.faults))
got_map_keeps T U F f d e w κs a g r u = says w _ _
