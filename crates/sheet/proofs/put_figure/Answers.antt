-- `sheet::put_figure` meets its contract, an arm for each figure.
-- Assumes nothing.
use mir.Syntax.{w64}
use mir.Facts.{to_z-of_z}
use Rattle.sheet.proofs.put_figure.Goals as goal

pub returns-in-Unsigned : goal.returns-in-Unsigned
returns-in-Unsigned c = rw c.in-Unsigned.is c.put_unsigned.ensures

pub returns-in-Signed : goal.returns-in-Signed
returns-in-Signed c =
    let back = to_z-of_z {w = w64} {z = c.in-Signed.n} (record { sfits = c.in-Signed.known_told-in-Signed-1-own.given.0.1 }) in
    rw c.in-Signed.is (rw back at c.put_signed.ensures)

pub returns-in-Real : goal.returns-in-Real
returns-in-Real c = rw c.in-Real.is c.put_real.ensures

pub returns-in-Factor : goal.returns-in-Factor
returns-in-Factor c = rw c.in-Factor.is c.put_factor.ensures

pub returns-in-Charge : goal.returns-in-Charge
returns-in-Charge c =
    let back = to_z-of_z {w = w64} {z = c.in-Charge.n} (record { sfits = c.in-Charge.known_told-in-Charge-1-own.given.0.1 }) in
    rw c.in-Charge.is (rw back at c.put_charge.ensures)

pub returns-in-Given : goal.returns-in-Given
returns-in-Given c = rw c.in-Given.is c.put_flag.ensures

pub returns-in-Row : goal.returns-in-Row
returns-in-Row c = rw c.in-Row.is c.put_row.ensures
