-- What is derived from these fields. Assumes nothing.
use Rattle.std.specs.Prelude.{◌≡◌, ℕ, ◌<◌, List, nat_eq}
use Rattle.chart.specs.Fields.{Field}
use Rattle.groups.specs.Numbers.{those}
use Rattle.validity.specs.Chart.{chart_of, rank}
use Rattle.validity.specs.Tables.{states, graphs, transitions, depth_of, initial_of, is_chain, source_of, target_of, owner_of, is_in}
use Rattle.derived.specs.declared.Derived.{Derived}
use Rattle.derived.specs.Columns.{depth_at, suspension_at, rank_at, initial_at, chain_at, outgoing_at, incoming_at, members_at, owned_at}
use Rattle.derived.specs.Suspended.{suspension_span}

-- Depth, suspension and rank of a state, initial states, chain transitions, the transitions of a state, the states of a graph and the graphs of a state are those of the fields.
pub record Derives (fs : List Field) (d : Derived) : Type 0 where
  pub depths : (s : ℕ) → s < states fs → depth_at d s ≡ depth_of fs s
  pub suspensions : (s : ℕ) → s < states fs → suspension_at d s ≡ suspension_span fs s
  pub ranks : (s : ℕ) → s < states fs → rank_at d s ≡ rank (chart_of fs) s
  pub initials : (g : ℕ) → g < graphs fs → initial_at d g ≡ initial_of fs g
  pub chain : (t : ℕ) → t < transitions fs → chain_at d t ≡ is_chain fs t
  pub outgoing : (s : ℕ) → s < states fs → outgoing_at d s ≡ those (transitions fs) (λ t. nat_eq (source_of fs t) s)
  pub incoming : (s : ℕ) → s < states fs → incoming_at d s ≡ those (transitions fs) (λ t. nat_eq (target_of fs t) s)
  pub members : (g : ℕ) → g < graphs fs → members_at d g ≡ those (states fs) (is_in fs g)
  pub owned : (s : ℕ) → s < states fs → owned_at d s ≡ those (graphs fs) (λ g. nat_eq (owner_of fs g) s)
