-- "0 is done, else a refusal as `number * 2^48 + place * 2^32 + length`."
use Rattle.std.specs.Prelude.{ℕ, ◌+◌, ◌*◌, ◌%◌, ◌^◌}
use Rattle.lexitem.specs.declared.answer.Refusal.{Refusal}

-- a refusal's number, place and length as one number; 0, 0 and 0 are no refusal
abbrev pub packed_as : ℕ × ℕ × ℕ → ℕ
packed_as (number, place, length) = number * 2 ^ 48 + place * 2 ^ 32 + length

-- the same of any refusal; those that are answered have numbers and places of 16 bits and lengths of 32, and stand there as they are
abbrev pub packed_in : Refusal → ℕ
packed_in r = packed_as (r.number % 2 ^ 16, r.place % 2 ^ 16, r.length % 2 ^ 32)
