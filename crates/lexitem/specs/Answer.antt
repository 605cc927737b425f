-- A refusal by its three numbers, as 01's table gives them.
use Rattle.std.specs.Prelude.{ℕ}
use Rattle.lexitem.specs.declared.answer.Refusal.{Refusal}

abbrev pub refusal : ℕ → ℕ → ℕ → Refusal
refusal number place length = record { number = number; place = place; length = length }
