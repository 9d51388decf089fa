-- How far a reader has come. Assumes nothing.
use Rattle.std.specs.Prelude.{◌≡◌, ℕ, ◌<◌, ◌≤◌, true, List, [], ◌∷◌, ◌++◌, reverse, length, take, Some, None, Ok, Err, Option, Result}
use Rattle.chart.specs.declared.fields.Placed.{Placed}
use Rattle.chart.specs.declared.limits.Counts.{Counts}
use Rattle.chart.specs.declared.order.Stage.{Stage}
use Rattle.chart.specs.declared.refusals.Limit.{Limit}
use Rattle.chart.specs.declared.refusals.Refusal.{Refusal}
use Rattle.chart.specs.declared.refusals.Refusal.TheVariants.{BeyondLimit}
use Rattle.chart.specs.Fields.{Field, encode_all}
use Rattle.chart.specs.Files.{is_row, Passes, Refused}
use Rattle.chart.specs.Limits.{counts_of}
use Rattle.chart.specs.Reading.{row_of}
use Rattle.chart.specs.Stages.{stage_of}
use Rattle.chart.specs.Stated.{stated}

-- the fields in front of a place
abbrev pub before : List ℕ → ℕ → List Field
before b at = row_of (take at b)

-- the counts, or the refusal of the field at p that passes a limit
abbrev pub or_beyond : ℕ → Result Counts Limit → Result Counts Refusal
or_beyond p (Ok c) = Ok c
or_beyond p (Err l) = Err (BeyondLimit p l)

-- Where a reader may stand: the bytes in front of the place are the encodings of a row of fields, and stage and counts are those behind that row.
pub record Position (b : List ℕ) (at : ℕ) (stage : Stage) (counts : Counts) : Type 0 where
  pub within : at ≤ length b
  pub passed : encode_all (before b at) ≡ take at b
  pub row : is_row (before b at) ≡ true
  pub staged : stage ≡ stage_of (reverse (before b at))
  pub counted : counts ≡ counts_of (reverse (before b at))

-- What the next field is, from the place `at`, where the reader stands at `after` afterwards: none, since all of the file is read; this one; or a refusal.
pub record FieldAt (b : List ℕ) (at : ℕ) (p : Placed) (after : ℕ) : Type 0 where
  pub place : p.place ≡ at
  pub further : at < after
  pub row : before b after ≡ before b at ++ (stated p.field ∷ [])

abbrev pub Next : List ℕ → ℕ → Result (Option Placed) Refusal → ℕ → Type 0
Next b at (Ok None) after = Passes b (before b at) × (after ≡ at)
Next b at (Ok (Some p)) after = FieldAt b at p after
Next b at (Err e) after = Refused b e × (after ≡ at)
