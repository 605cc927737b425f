-- "The checker names exactly the MASTER numbers that differ." "found[0] has bit n set if the n-th MASTER number (from 0) differs, found[1] to [12] are
-- what was counted, found[13] to [24] what MASTER says."
use Rattle.std.specs.Prelude.{ℕ, List, ◌∷◌, ◌++◌}
use Rattle.tally.specs.Compare.{counts_of, said_by, differing}
use Rattle.audit.specs.declared.Compared.{Compared}

abbrev pub differs : Compared → ℕ
differs c = differing (counts_of c.counted) (said_by c.said)

abbrev pub found_in_of : Compared → List ℕ
found_in_of c = differs c ∷ counts_of c.counted ++ said_by c.said
