-- Laws of a line's first six bytes as two numbers, each with its first byte as the last digit.
--     atom-front, hetatm-front     a line whose numbers are those of a name is of the name's kind
-- Assumes nothing.
use Prim.Native.Nat.{ℕ, ◌+◌, ◌*◌, ◌<◌}
use mathlib.Core.Path.{◌≡◌, refl}
use mathlib.Core.Bool.{Bool, true, false, ◌&&◌}
use mathlib.Core.List.{List, [], ◌∷◌}
use native.Mathlib.Omega.{arith}
use lib.Dec.{T, eqb}
use lib.ListN.{length, take, get_or}
use borrow.Author.Tests.{lt-ltb, eqb-true}
use Rattle.line.specs.declared.options.Mode.{Mode}
use Rattle.kind.specs.Key.{key_of, kind_by_key, four_of, two_of}
use Rattle.kind.specs.Kind.{names_by, kind_of}
use Rattle.kind.specs.declared.Kind.TheVariants.{Atom, Hetatm}
use Rattle.kind.proofs.Laws.Key.{Bytes, is_bytes, first_byte, key_more}
use Rattle.kind.proofs.Laws.Table.{names-six, kind-by_front}

-- equal numbers have the same last digit, and the same before it
digits : (m n a b : ℕ) → a < 256 → b < 256 → m * 256 + a ≡ n * 256 + b → (m ≡ n) × (a ≡ b)
digits m n a b p q e = (omega arith, omega arith)

both : (p q : Bool) → p && q ≡ true → (p ≡ true) × (q ≡ true)
both true q e = (refl, e)
both false q e = let z : false ≡ true = e in (z, cc)

module _ (l : List ℕ) (byte : Bytes l) (long : 6 < length l) where
  small : (i : ℕ) → get_or l i 0 < 256
  small i = omega (arith, byte i)

  front_key : (a b c d e f : ℕ) → T (is_bytes (a ∷ b ∷ c ∷ d ∷ e ∷ f ∷ []))
      → four_of l ≡ key_of (d ∷ c ∷ b ∷ a ∷ []) → two_of l ≡ key_of (f ∷ e ∷ []) → key_of (take 6 l) ≡ key_of (a ∷ b ∷ c ∷ d ∷ e ∷ f ∷ [])
  front_key a b c d e f h four two =
      let at = key_more l in
      let ha = first_byte a (b ∷ c ∷ d ∷ e ∷ f ∷ []) h in
      let hb = first_byte b (c ∷ d ∷ e ∷ f ∷ []) ha.1 in
      let hc = first_byte c (d ∷ e ∷ f ∷ []) hb.1 in
      let hd = first_byte d (e ∷ f ∷ []) hc.1 in
      let he = first_byte e (f ∷ []) hd.1 in
      let hf = first_byte f [] he.1 in
      let first = digits _ _ _ _ (small 0) ha.0 four in
      let second = digits _ _ _ _ (small 1) hb.0 first.0 in
      let third = digits _ _ _ _ (small 2) hc.0 second.0 in
      let fourth = digits 0 0 (get_or l 3 0) d (small 3) hd.0 third.0 in
      let fifth = digits _ _ _ _ (small 4) he.0 two in
      let sixth = digits 0 0 (get_or l 5 0) f (small 5) hf.0 fifth.0 in
      rw (
        at 5 (omega arith),
        at 4 (omega arith),
        at 3 (omega arith),
        at 2 (omega arith),
        at 1 (omega arith),
        at 0 (omega arith),
        first.1,
        second.1,
        third.1,
        fourth.1,
        fifth.1,
        sixth.1,
      )
      refl

  front-kind : (atoms : Bool) (mode : Mode) (a b c d e f : ℕ) → T (is_bytes (a ∷ b ∷ c ∷ d ∷ e ∷ f ∷ []))
      → eqb (four_of l) (key_of (d ∷ c ∷ b ∷ a ∷ [])) && eqb (two_of l) (key_of (f ∷ e ∷ [])) ≡ true
      → kind_by_key (key_of (a ∷ b ∷ c ∷ d ∷ e ∷ f ∷ [])) (names_by atoms) ≡ kind_of atoms mode l
  unfolding kind_of
  front-kind atoms mode a b c d e f h t =
      let four = key_of (d ∷ c ∷ b ∷ a ∷ []) in
      let two = key_of (f ∷ e ∷ []) in
      let tests = both (eqb (four_of l) four) (eqb (two_of l) two) t in
      let key = front_key a b c d e f h (eqb-true (four_of l) four tests.0) (eqb-true (two_of l) two tests.1) in
      rw (lt-ltb 6 (length l) long, kind-by_front 6 (names_by atoms) l byte (omega arith) (names-six atoms), key) refl

  pub atom-front : (atoms : Bool) (mode : Mode) → eqb (four_of l) 0x4d4f5441 && eqb (two_of l) 0x2020 ≡ true → Atom ≡ kind_of atoms mode l
  atom-front true mode t = front-kind true mode 0x41 0x54 0x4f 0x4d 0x20 0x20 tt t
  atom-front false mode t = front-kind false mode 0x41 0x54 0x4f 0x4d 0x20 0x20 tt t

  pub hetatm-front : (atoms : Bool) (mode : Mode) → eqb (four_of l) 0x41544548 && eqb (two_of l) 0x4d54 ≡ true → Hetatm ≡ kind_of atoms mode l
  hetatm-front true mode t = front-kind true mode 0x48 0x45 0x54 0x41 0x54 0x4d tt t
  hetatm-front false mode t = front-kind false mode 0x48 0x45 0x54 0x41 0x54 0x4d tt t
