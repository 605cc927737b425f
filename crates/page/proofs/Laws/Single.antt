-- The contract of each public function asks nothing and leaves one answer, with one content of all that is lent to be written.
-- Assumes nothing.
use Prim.Native.Nat.{ℕ}
use mathlib.Core.Path.{◌≡◌, refl, sym, ap, ◌∙◌}
use mathlib.Core.List.{List}
use Rattle.single.specs.One.{One}
use Rattle.single.proofs.Laws.One.{equation, leaves, lent}
use Rattle.page.specs.Page.{Page, page}
use Rattle.page.specs.contracts as its

-- a page tells its bytes and the place of the next one
pub page-one : {p : Page} {after other : List ℕ} {r s : ℕ} → page after r ≡ p → page other s ≡ p → (r ≡ s) × (after ≡ other)
page-one a b = let e = a ∙ sym b in (ap (λ (q : Page). q.at) e, ap (λ (q : Page). q.bytes) e)

pub put_byte-one : One its.put_byte.ended (λ M 𝓤. its.put_byte.clauses)
put_byte-one w κs a g = leaves w (λ r s u v e f. lent 0 2 (page-one e f))

pub put-bytes_one : One its.put_bytes.ended (λ M 𝓤. its.put_bytes.clauses)
put-bytes_one w κs a g = leaves w (λ r s u v e f. lent 0 2 (page-one e f))

pub put_escaped_one : One its.put_escaped.ended (λ M 𝓤. its.put_escaped.clauses)
put_escaped_one w κs a g = leaves w (λ r s u v e f. lent 0 2 (page-one e f))

pub put_unsigned_one : One its.put_unsigned.ended (λ M 𝓤. its.put_unsigned.clauses)
put_unsigned_one w κs a g = leaves w (λ r s u v e f. lent 0 2 (page-one e f))

pub put_signed_one : One its.put_signed.ended (λ M 𝓤. its.put_signed.clauses)
put_signed_one w κs a g = leaves w (λ r s u v e f. lent 0 2 (page-one e f))

pub bits_of_one : One its.bits_of.ended (λ M 𝓤. its.bits_of.clauses)
bits_of_one w κs a g = equation w (λ u v. refl)

pub put_hex_one : One its.put_hex.ended (λ M 𝓤. its.put_hex.clauses)
put_hex_one w κs a g = leaves w (λ r s u v e f. lent 0 2 (page-one e f))
