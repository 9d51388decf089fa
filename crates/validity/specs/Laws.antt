-- What the definitions of a valid chart come to. Assumes nothing.
use Rattle.std.specs.Prelude.{◌≡◌, ℕ, ◌<◌, ◌≤◌, Bool, true, ◌↔◌, List, length, Some, None, Ok, Err}
use Rattle.chart.specs.Fields.{Field}
use Rattle.chart.specs.Files.{Passes}
use Rattle.validity.specs.declared.faults.Fault.{Fault}
use Rattle.validity.specs.declared.faults.Invalid.{Invalid}
use Rattle.validity.specs.Numbering.{Rule, references, nesting, ends, leaving, rule_of}
use Rattle.validity.specs.Closure.{Leads, leads}
use Rattle.validity.specs.Triggers.{postfix_fault}
use Rattle.validity.specs.Expressions.{Expression, postfix, names, height}
use Rattle.validity.specs.Tables.{transitions, chain_leads, is_chain_by, is_chain}
use Rattle.validity.specs.Faults.{fault_by}
use Rattle.validity.specs.Outcome.{Keeps, Faultless, Refused, outcome}
use Rattle.validity.specs.Chart.{Chart, chart_of, rank}
use Rattle.validity.specs.Sound.{Sound}

-- References, nesting, ends and what leaves a macrostate are in order: what chain transitions rest on.
pub record Structured (fs : List Field) : Type 0 where
  pub some_field : 0 < length fs
  pub keeps_references : Keeps fs references
  pub keeps_nesting : Keeps fs nesting
  pub keeps_ends : Keeps fs ends
  pub keeps_leaving : Keeps fs leaving

-- A transition is a chain transition exactly if it is immediate, or normal with a source that may end on entry by these very chain transitions.
abbrev pub ChainRule : List Field → (ℕ → Bool) → Type 0
ChainRule fs chain = (t : ℕ) → t < transitions fs → chain t ≡ is_chain_by fs (chain_leads fs chain) t

pub record ValidityLaws : Type 0 where
  -- A row is accepted exactly if no field breaks a rule, and refused so exactly if this is the first rule broken, at the first field that breaks it.
  pub accepts : (fs : List Field) → (outcome fs ≡ Ok tt) ↔ Faultless fs
  pub refuses : (fs : List Field) (x : Invalid) → (outcome fs ≡ Err x) ↔ Refused fs x
  -- a fault that is found by a rule is one of that rule
  pub by_rule : (fs : List Field) (r : Rule) (i : ℕ) (f : Fault) → fault_by fs r i ≡ Some f → rule_of f ≡ r
  -- A trigger has no fault exactly if it is the postfix of an expression over the chart's signals that needs at most eight stacked values.
  pub triggers : (signals : ℕ) (p : List ℕ) → (postfix_fault signals p 0 ≡ None) ↔ ((e : Expression) × (postfix e ≡ p) × (names signals e ≡ true) × (height e ≤ 8))
  -- The computed closure is the relation, where steps stay below n.
  pub closure : (n : ℕ) (step : ℕ → ℕ → Bool) → ((x y : ℕ) → step x y ≡ true → (x < n) × (y < n)) → (x y : ℕ) → (leads n step x y ≡ true) ↔ Leads step x y
  -- Chain transitions and macrostates that may end on entry are told by one another. One set of transitions is so told, and no other.
  pub chains : (fs : List Field) → Structured fs → ChainRule fs (is_chain fs)
  pub chains_only : (fs : List Field) → Structured fs → (chain : ℕ → Bool) → ChainRule fs chain → (t : ℕ) → t < transitions fs → chain t ≡ is_chain fs t
  -- The chart of a file that passes, and of whose fields none breaks a rule, is sound.
  pub sound : (b : List ℕ) (fs : List Field) → Passes b fs → Faultless fs → Sound (chart_of fs)
  -- Along a chain transition the rank rises.
  pub rank_rises : (c : Chart) → Sound c → (t : ℕ) → t < c.transitions → c.chain t ≡ true → rank c (c.source t) < rank c (c.target t)
