-- A refusal as one number.
--     packed-small     one whose number and place have sixteen bits and whose length has thirty-two stands there as it is
-- Assumes nothing.
use Prim.Native.Nat.{◌<◌}
use mathlib.Core.Path.{◌≡◌, refl}
use native.Mathlib.Nat.{mod-eq_of_lt}
use Rattle.lexitem.specs.declared.answer.Refusal.{Refusal}
use Rattle.packing.specs.Packed.{packed_as, packed_in}

abbrev pub Small : Refusal → Type 0
Small r = (r.number < 65536) × (r.place < 65536) × (r.length < 4294967296)

pub packed-small : (r : Refusal) → Small r → packed_in r ≡ packed_as (r.number, r.place, r.length)
packed-small r h = rw (mod-eq_of_lt h.0, mod-eq_of_lt h.1, mod-eq_of_lt h.2) refl
