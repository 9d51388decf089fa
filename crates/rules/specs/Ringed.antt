-- The rule on rings, by chain transitions and by what they lead to. Assumes nothing.
use Rattle.std.specs.Prelude.{ℕ, Bool, List, Option}
use Rattle.chart.specs.Fields.{Field}
use Rattle.validity.specs.declared.faults.Fault.{Fault}
use Rattle.validity.specs.Faults.{first_case, ring_in}
use Rattle.validity.specs.Parts.{at}

abbrev pub ring_by : List Field → (ℕ → Bool) → (ℕ → ℕ → Bool) → ℕ → Option Fault
ring_by fs chain leads_to i = first_case (ring_in fs chain leads_to i (at fs i))
