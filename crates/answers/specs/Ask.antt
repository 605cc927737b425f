-- "The kind number, or refusal 2 or 3, which is 2^48 or more".
use Rattle.std.specs.Prelude.{ℕ, Result, Ok, Err}
use Rattle.kind.specs.Kind.{number_of}
use Rattle.kind.specs.declared.Kind.{Kind}
use Rattle.lexitem.specs.declared.answer.Refusal.{Refusal}
use Rattle.packing.specs.Packed.{packed_as}

abbrev pub kind_word : Result Kind Refusal → ℕ
kind_word (Ok k) = number_of k
kind_word (Err r) = packed_as (r.number, r.place, r.length)
