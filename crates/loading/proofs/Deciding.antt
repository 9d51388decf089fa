-- How a file that was read is judged.
use Rattle.std.proofs.Common.{◌≡◌, ℕ, List, Err, Result, sym, ap, ◌∙◌}
use Rattle.chart.specs.declared.refusals.Refusal.{Refusal as Format}
use Rattle.chart.specs.Files.{Passes, Refused}
use Rattle.chart.specs.Reading.{row_of}
use Rattle.chart.proofs.Reasons.{passes_read, refused_read}
use Rattle.validity.specs.declared.faults.Invalid.{Invalid as Breach}
use Rattle.validity.specs.Outcome.{outcome}
use Rattle.loading.specs.declared.refusals.Refusal.TheVariants.{Malformed}
use Rattle.loading.specs.Loading.{judged, after_reading, loading}

pub by_format : (b : List ℕ) (e : Format) → Refused b e → Err (Malformed e) ≡ loading b
by_format b e h = sym (ap after_reading (refused_read b e h))

-- its copy has this outcome
pub by_rules : (b copy : List ℕ) (r : Result (Unit {0}) Breach) → Passes b (row_of b) → copy ≡ b → outcome (row_of copy) ≡ r → judged r ≡ loading b
by_rules b copy r h same out = sym (ap after_reading (passes_read b (row_of b) h) ∙ ap judged (ap (λ b. outcome (row_of b)) (sym same) ∙ out))
