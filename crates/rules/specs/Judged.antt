-- The chain transitions of a valid chart. Assumes nothing.
use Rattle.std.specs.Prelude.{◌≡◌, ℕ, List, Ok}
use Rattle.chart.specs.Fields.{Field}
use Rattle.closure.specs.Rows.{told}
use Rattle.validity.specs.Outcome.{outcome}
use Rattle.validity.specs.Tables.{is_chain, chain_leads}
use Rattle.chains.specs.declared.Chains.{Chains}
use Rattle.chains.specs.Marks.{marked}

-- no field breaks a rule, and these are the chain transitions
pub record Judged (fs : List Field) (c : Chains) : Type 0 where
  pub valid : outcome fs ≡ Ok tt
  pub chain : (t : ℕ) → marked c t ≡ is_chain fs t
  pub leads : (x y : ℕ) → told c.reach x y ≡ chain_leads fs (is_chain fs) x y
