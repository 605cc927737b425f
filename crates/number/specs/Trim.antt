-- "Trim takes off bytes 9 to 13 and 32."
use Rattle.std.specs.Prelude.{ℕ, suc, Bool, cond, ◌&&◌, ◌||◌, List, [], ◌∷◌, length, take, drop, leb, eqb}
use Rattle.number.specs.declared.trim.Span.{Span}

-- a byte that trim takes off
unfoldable pub white : ℕ → Bool
white b = eqb b 32 || (leb 9 b && leb b 13)

-- how many such bytes stand at the front
unfoldable pub leading : List ℕ → ℕ
leading [] = 0
leading (b ∷ t) = cond (white b) (suc (leading t)) 0

-- how many bytes stand up to the last one that is no such byte
unfoldable pub kept : List ℕ → ℕ
kept [] = 0
kept (b ∷ t) = cond (white b && eqb (kept t) 0) 0 (suc (kept t))

-- the text without them at its end
unfoldable pub end_trimmed : List ℕ → List ℕ
end_trimmed t = take (kept t) t

-- the text without them at both ends
unfoldable pub trimmed : List ℕ → List ℕ
trimmed t = end_trimmed (drop (leading t) t)

-- where the trimmed text lies in the text: its place and length, both 0 if it is empty
unfoldable pub span_of : List ℕ → Span
span_of t =
    cond (eqb (length (trimmed t)) 0)
    (record { place = 0; length = 0 })
    (record { place = leading t; length = length (trimmed t) })
