-- Whether a row of fields is a chart: computed, and in terms of the rules. Assumes nothing.
use Rattle.std.specs.Prelude.{◌≡◌, ℕ, ◌<◌, List, [], ◌∷◌, length, Some, None, Ok, Err, Option, Result, slice_index_or}
use Rattle.chart.specs.Fields.{Field, place_at}
use Rattle.validity.specs.declared.faults.Fault.{Fault}
use Rattle.validity.specs.declared.faults.Invalid.{Invalid}
use Rattle.validity.specs.Numbering.{Rule, references, nesting, ends, leaving, triggers, rings, number_by, rule_of}
use Rattle.validity.specs.Ranges.{first_of}
use Rattle.validity.specs.Faults.{fault_by}

-- The rule is kept: no field breaks it.
abbrev pub Keeps : List Field → Rule → Type 0
Keeps fs r = (i : ℕ) → i < length fs → fault_by fs r i ≡ None

abbrev pub Faultless : List Field → Type 0
Faultless fs = (r : Rule) → Keeps fs r

-- The fault is of the first rule that some field breaks, at the first field that breaks it.
pub record Refused (fs : List Field) (x : Invalid) : Type 0 where
  pub i : ℕ
  pub below : i < length fs
  pub place : x.place ≡ place_at fs i
  pub faulty : fault_by fs (rule_of x.fault) i ≡ Some x.fault
  pub first_field : (j : ℕ) → j < i → fault_by fs (rule_of x.fault) j ≡ None
  pub first_rule : (r : Rule) → number_by r < number_by (rule_of x.fault) → Keeps fs r

-- The same, computed.

abbrev pub located : ℕ → Option Fault → Option Invalid
located p None = None
located p (Some f) = Some (record { place = p; fault = f })

-- the first field that breaks the rule
abbrev pub first_by : List Field → Rule → Option Invalid
first_by fs r = let fault = fault_by fs r in first_of (length fs) (λ i. located (place_at fs i) (fault i))

abbrev pub rules : List Rule
rules = references ∷ (nesting ∷ (ends ∷ (leaving ∷ (triggers ∷ (rings ∷ [])))))

abbrev pub rule_at : ℕ → Rule
rule_at k = slice_index_or rules k rings

abbrev pub unless : Option Invalid → Result (Unit {0}) Invalid
unless None = Ok tt
unless (Some x) = Err x

-- each rule over the whole row before the next
abbrev pub outcome : List Field → Result (Unit {0}) Invalid
outcome fs = unless (first_of (length rules) (λ k. first_by fs (rule_at k)))
