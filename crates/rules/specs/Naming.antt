-- What may be wrong with the numbers that a transition or effects name. Assumes nothing.
use Rattle.std.specs.Prelude.{ℕ, not, List, [], ◌∷◌}
use Rattle.chart.specs.Fields.{Field}
use Rattle.chart.specs.WellFormed.{every}
use Rattle.validity.specs.declared.faults.Fault.TheVariants.{UnknownSource, UnknownTarget, UnknownEffect, InputEffect}
use Rattle.validity.specs.Faults.{Case, when, unknown_state, is_signal_number, is_no_input}

-- of a transition from s to t
abbrev pub transition_naming : List Field → ℕ → ℕ → List Case
transition_naming fs s t = when (unknown_state fs s) UnknownSource ∷ (when (unknown_state fs t) UnknownTarget ∷ [])

abbrev pub effects_naming : List Field → List ℕ → List Case
effects_naming fs e = when (not (every (is_signal_number fs) e)) UnknownEffect ∷ (when (not (every (is_no_input fs) e)) InputEffect ∷ [])
