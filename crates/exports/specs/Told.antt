-- What callers are told of a file. Assumes nothing.
use Rattle.std.specs.Prelude.{ℕ, cond, is_ok, Ok, Err, Result}
use Rattle.loading.specs.declared.refusals.Refusal.{Refusal}
use Rattle.loading.specs.Numbers.{number_of, layer_of, place_of}
use Rattle.exports.specs.declared.Outcome.{Outcome}

abbrev pub no_memory : Outcome
no_memory = record { number = 255; layer = 0; place = 0 }

-- number, layer and place of the refusal
abbrev pub refused : Refusal → Outcome
refused e = record { number = number_of e; layer = layer_of e; place = place_of e }

-- the refusal, or zeros if there is none
abbrev pub told : Result (Unit {0}) Refusal → Outcome
told (Ok u) = record { number = 0; layer = 0; place = 0 }
told (Err e) = refused e

-- how many of so many loads are accepted
abbrev pub accepted : ℕ → Result (Unit {0}) Refusal → ℕ
accepted times r = cond (is_ok r) times 0
