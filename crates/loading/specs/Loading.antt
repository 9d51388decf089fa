-- Which files are loaded, and why a file is refused: computed, and in terms of format and rules. Assumes nothing.
use Rattle.std.specs.Prelude.{ℕ, List, Ok, Err, Result}
use Rattle.chart.specs.declared.refusals.Refusal.{Refusal as Format}
use Rattle.chart.specs.Fields.{Field}
use Rattle.chart.specs.Files.{Passes, Refused}
use Rattle.chart.specs.Reading.{read}
use Rattle.validity.specs.declared.faults.Invalid.{Invalid as Breach}
use Rattle.validity.specs.Outcome.{Faultless, outcome}
use Rattle.validity.specs.Outcome as rules
use Rattle.loading.specs.declared.refusals.Refusal.{Refusal}
use Rattle.loading.specs.declared.refusals.Refusal.TheVariants.{Malformed, Invalid}

-- The bytes are the encodings of a row of fields of which none breaks a rule.
pub record Loads (b : List ℕ) : Type 0 where
  pub fields : List Field
  pub passes : Passes b fields
  pub faultless : Faultless fields

-- The file is refused so: by its format; or its fields pass, and this is the first rule that some field breaks, at the first such field.
pub data RefusedSo (b : List ℕ) : Refusal → Type 0 where
  malformed : {e : Format} → Refused b e → RefusedSo b (Malformed e)
  invalid : (fs : List Field) {x : Breach} → Passes b fs → rules.Refused fs x → RefusedSo b (Invalid x)

-- The same, computed.

abbrev pub judged : Result (Unit {0}) Breach → Result (Unit {0}) Refusal
judged (Ok u) = Ok u
judged (Err x) = Err (Invalid x)

abbrev pub after_reading : Result (List Field) Format → Result (Unit {0}) Refusal
after_reading (Ok fs) = judged (outcome fs)
after_reading (Err e) = Err (Malformed e)

abbrev pub loading : List ℕ → Result (Unit {0}) Refusal
loading b = after_reading (read b)
