-- `layout::rows::put_value` meets its contract: each arm is a clause of `value_bytes`.
-- Assumes nothing.
use mathlib.Core.Path.{refl}
use mir.Syntax.{w64}
use mir.Facts.{to_z-of_z}
use Rattle.page.specs.Page.{put}
use Rattle.layout.proofs.rows.put_value.Goals as goal

pub returns-in-Unsigned : goal.returns-in-Unsigned
returns-in-Unsigned c = rw c.in-Unsigned.is c.put_unsigned.ensures

pub returns-in-Signed : goal.returns-in-Signed
returns-in-Signed c =
    let n = c.in-Signed.n in
    let back = to_z-of_z {w = w64} {z = n} (record { sfits = c.in-Signed.known_told-in-Signed-1-own.given.0.1 }) in
    rw c.in-Signed.is (rw back at c.put_signed.ensures)

pub returns-in-Real : goal.returns-in-Real
returns-in-Real c = rw c.in-Real.is (rw c.bits_of.ensures at c.put_hex.ensures)

pub returns-in-Factor : goal.returns-in-Factor
returns-in-Factor c = rw c.in-Factor.is (rw c.bits_of-in-Factor.ensures at c.put_hex-in-Factor.ensures)

pub returns-in-Words : goal.returns-in-Words
returns-in-Words c = rw c.in-Words.is c.put_field.ensures

pub returns-in-One : goal.returns-in-One
returns-in-One c = rw c.in-One.is c.put_field-in-One.ensures

pub returns-in-Nothing : goal.returns-in-Nothing
unfolding put
returns-in-Nothing c = rw c.in-Nothing.is refl
