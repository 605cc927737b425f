-- Laws of the names and their kinds.
--     are_names         whether each name of a table is w bytes: `tt` proves it of those there are
--     names-six        so are those that count, under atoms only or not
--     kind_by_key_lem      a name is found by its number
--     kind-by_front    so is the front of a line
-- Assumes nothing.
use Prim.Native.Nat.{ℕ, ◌≤◌}
use mathlib.Core.Path.{◌≡◌, refl, ◌∙◌}
use mathlib.Core.Bool.{Bool, true, false, ◌&&◌}
use mathlib.Core.List.{List, [], ◌∷◌}
use lib.Dec.{T, eqb, eqb→eq}
use lib.ListN.{length, take}
use lib.Seq.{length-take-le}
use lib.Ieee.Fits.{and_l, and_r}
use Rattle.kind.specs.Key.{key_of, kind_by_key}
use Rattle.kind.specs.Kind.{Named, names_by, kind_by}
use Rattle.kind.proofs.Laws.Key.{Bytes, is_bytes, bytes-front, same_key}

-- whether a text is w bytes
abbrev is_name_of : ℕ → List ℕ → Bool
is_name_of w t = eqb w (length t) && is_bytes t

abbrev pub are_names : ℕ → List Named → Bool
are_names w [] = true
are_names w (n ∷ ns) = is_name_of w n.name && are_names w ns

pub names-six : (atoms : Bool) → T (are_names 6 (names_by atoms))
names-six true = tt
names-six false = tt

is_name : (w : ℕ) (t : List ℕ) → T (is_name_of w t) → (w ≡ length t) × T (is_bytes t)
is_name w t h = (eqb→eq w (length t) (and_l (eqb w (length t)) (is_bytes t) h), and_r (eqb w (length t)) (is_bytes t) h)

pub kind_by_key_lem : (s : List ℕ) (w : ℕ) (ns : List Named) → length s ≡ w → T (is_bytes s) → T (are_names w ns)
    → kind_by s ns ≡ kind_by_key (key_of s) ns
kind_by_key_lem s w [] e b t = refl
kind_by_key_lem s w (n ∷ ns) e b t =
    let first = is_name w n.name (and_l (is_name_of w n.name) (are_names w ns) t) in
    let rest = kind_by_key_lem s w ns e b (and_r (is_name_of w n.name) (are_names w ns) t) in
    rw (same_key s n.name (e ∙ first.0) b first.1, rest) refl

pub kind-by_front : (w : ℕ) (ns : List Named) (l : List ℕ) → Bytes l → w ≤ length l → T (are_names w ns)
    → kind_by (take w l) ns ≡ kind_by_key (key_of (take w l)) ns
kind-by_front w ns l f h t = kind_by_key_lem (take w l) w ns (length-take-le w l h) (bytes-front w l f) t
