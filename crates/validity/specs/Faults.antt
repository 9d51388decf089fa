-- What may be wrong with the field at an index, rule by rule. Assumes nothing.
use Rattle.std.specs.Prelude.{ℕ, suc, Bool, cond, not, ◌&&◌, ◌||◌, List, [], ◌∷◌, Some, None, Option, ◌==◌, nat_eq, nat_le, nat_lt}
use Rattle.chart.specs.declared.kinds.Tag.TheVariants.{State, Graph, Transition, Suspension, Trigger}
use Rattle.chart.specs.declared.kinds.StateKind.{StateKind}
use Rattle.chart.specs.declared.kinds.TransitionKind.{TransitionKind}
use Rattle.chart.specs.Fields.{Field, signal, state, graph, transition, suspension, trigger, effects, is}
use Rattle.chart.specs.WellFormed.{every}
use Rattle.validity.specs.declared.faults.Fault.{Fault}
use Rattle.validity.specs.declared.faults.Fault.TheVariants.{UnknownGraph, UnknownOwner, UnknownSource, UnknownTarget, UnknownSuspended, UnknownEffect, InputEffect, NoState, RootNotMacro, OwnerNotMacro, NoGraph, EmptyGraph, TooDeep, AcrossGraphs, FromFinal, StrongAfterWeaker, WeakAfterNormal, SecondNormal, ImmediateNormal, TriggeredNormal, FromUnending, NoNormal, RootSuspended, FinalSuspended, SecondSuspension, UntriggeredSuspension, OnRing}
use Rattle.validity.specs.Numbering.{Rule, references, nesting, ends, leaving, triggers, rings}
use Rattle.validity.specs.Ranges.{any_of, all_of}
use Rattle.validity.specs.Parts.{is_final, is_macro, is_strong, is_weak, is_normal, at, number_at}
use Rattle.validity.specs.Tables.{signals, is_input_signal, states, state_kind_of, graph_of, graphs, owner_of, is_in, depth_of, transitions, source_of, transition_kind_of, suspended_by, chain_leads, reached, is_chain}
use Rattle.validity.specs.Triggers.{postfix_fault}

-- a fault, and the test whether a field has it
pub record Case : Type 0 where
  pub test : Bool
  pub fault : Fault

abbrev pub when : Bool → Fault → Case
when test fault = record { test = test; fault = fault }

-- the first fault whose test holds
abbrev pub first_case : List Case → Option Fault
first_case [] = None
first_case (c ∷ cs) = cond c.test (Some c.fault) (first_case cs)

module _ (fs : List Field) where
  -- References. Graph numbers and owners name what stands in front; the graph number of state 0 is 65,535.

  abbrev pub unknown_graph : ℕ → ℕ → Bool
  unknown_graph i g = cond (number_at fs State i == 0) (not (g == 65535)) (not (nat_lt g (number_at fs Graph i)))

  abbrev pub unknown_owner : ℕ → ℕ → Bool
  unknown_owner i o = not (nat_lt o (number_at fs State i))

  abbrev pub unknown_state : ℕ → Bool
  unknown_state s = not (nat_lt s (states fs))

  abbrev pub is_signal_number : ℕ → Bool
  is_signal_number n = nat_lt n (signals fs)

  abbrev pub is_no_input : ℕ → Bool
  is_no_input n = not (is_input_signal fs n)

  abbrev pub reference_in : ℕ → Field → List Case
  reference_in i (signal k name) = []
  reference_in i (state g k name) = when (unknown_graph i g) UnknownGraph ∷ []
  reference_in i (graph o) = when (unknown_owner i o) UnknownOwner ∷ []
  reference_in i (transition s t k im) = when (unknown_state s) UnknownSource ∷ (when (unknown_state t) UnknownTarget ∷ [])
  reference_in i (suspension s) = when (unknown_state s) UnknownSuspended ∷ []
  reference_in i (trigger p) = []
  reference_in i (effects e) = when (not (every is_signal_number e)) UnknownEffect ∷ (when (not (every is_no_input e)) InputEffect ∷ [])

  abbrev pub reference_fault : ℕ → Option Fault
  reference_fault i = first_case (reference_in i (at fs i))

  -- Nesting. State 0 is the root, at depth 1.

  abbrev pub owns_none : ℕ → Bool
  owns_none s = not (any_of (graphs fs) (λ g. nat_eq (owner_of fs g) s))

  abbrev pub is_empty : ℕ → Bool
  is_empty g = not (any_of (states fs) (is_in fs g))

  -- of the state s
  abbrev pub state_nesting : ℕ → StateKind → List Case
  state_nesting s k = when (s == 0 && not (is_macro k)) RootNotMacro ∷ (when (is_macro k && owns_none s) NoGraph ∷ (when (is_macro k && nat_le 9 (depth_of fs s)) TooDeep ∷ []))

  -- of the graph g with the owner o
  abbrev pub graph_nesting : ℕ → ℕ → List Case
  graph_nesting g o = when (not (is_macro (state_kind_of fs o))) OwnerNotMacro ∷ (when (is_empty g) EmptyGraph ∷ [])

  abbrev pub nesting_in : ℕ → Field → List Case
  nesting_in i (signal k name) = []
  nesting_in i (state g k name) = state_nesting (number_at fs State i) k
  nesting_in i (graph o) = graph_nesting (number_at fs Graph i) o
  nesting_in i (transition s t k im) = []
  nesting_in i (suspension s) = []
  nesting_in i (trigger p) = []
  nesting_in i (effects e) = []

  abbrev pub nesting_fault : ℕ → Option Fault
  nesting_fault i = first_case (when (i == 0 && states fs == 0) NoState ∷ nesting_in i (at fs i))

  -- Ends and order of transitions.

  -- the root is in no graph
  abbrev pub in_one_graph : ℕ → ℕ → Bool
  in_one_graph s t = not (s == 0) && not (t == 0) && graph_of fs s == graph_of fs t

  -- of the transitions from s in front of t, one is of such a kind
  abbrev pub stands_behind : ℕ → ℕ → (TransitionKind → Bool) → Bool
  stands_behind t s kind = any_of t (λ u. (source_of fs u == s) && kind (transition_kind_of fs u))

  -- of the transition n from s to t
  abbrev pub transition_ends : ℕ → ℕ → ℕ → TransitionKind → List Case
  transition_ends n s t k =
      when (not (in_one_graph s t)) AcrossGraphs ∷ (when (is_final (state_kind_of fs s)) FromFinal
      ∷ (when (is_strong k && stands_behind n s (λ l. is_weak l || is_normal l)) StrongAfterWeaker
      ∷ (when (is_weak k && stands_behind n s is_normal) WeakAfterNormal
      ∷ (when (is_normal k && stands_behind n s is_normal) SecondNormal ∷ []))))

  abbrev pub ends_in : ℕ → Field → List Case
  ends_in i (signal k name) = []
  ends_in i (state g k name) = []
  ends_in i (graph o) = []
  ends_in i (transition s t k im) = transition_ends (number_at fs Transition i) s t k
  ends_in i (suspension s) = []
  ends_in i (trigger p) = []
  ends_in i (effects e) = []

  abbrev pub ends_fault : ℕ → Option Fault
  ends_fault i = first_case (ends_in i (at fs i))

  -- Normal transitions and suspensions.

  -- a macrostate with a final state in every graph
  abbrev pub can_end : ℕ → Bool
  can_end s = is_macro (state_kind_of fs s) && all_of (graphs fs) (λ g. not (owner_of fs g == s) || any_of (states fs) (λ f. is_in fs g f && is_final (state_kind_of fs f)))

  abbrev pub has_normal : ℕ → Bool
  has_normal s = any_of (transitions fs) (λ t. (source_of fs t == s) && is_normal (transition_kind_of fs t))

  -- of the suspensions in front of u, one is of s
  abbrev pub is_suspended_before : ℕ → ℕ → Bool
  is_suspended_before u s = any_of u (λ v. nat_eq (suspended_by fs v) s)

  -- a trigger directly follows
  abbrev pub is_triggered : ℕ → Bool
  is_triggered i = is Trigger (at fs (suc i))

  abbrev pub state_leaving : ℕ → List Case
  state_leaving s = when (can_end s && not (s == 0) && not (has_normal s)) NoNormal ∷ []

  -- of the transition at i, from s
  abbrev pub transition_leaving : ℕ → ℕ → TransitionKind → Bool → List Case
  transition_leaving i s k immediate =
      when (is_normal k && immediate) ImmediateNormal ∷ (when (is_normal k && is_triggered i) TriggeredNormal ∷ (when (is_normal k && not (can_end s)) FromUnending ∷ []))

  -- of the suspension u at i, of s
  abbrev pub suspension_leaving : ℕ → ℕ → ℕ → List Case
  suspension_leaving i u s =
      when (s == 0) RootSuspended ∷ (when (is_final (state_kind_of fs s)) FinalSuspended
      ∷ (when (is_suspended_before u s) SecondSuspension ∷ (when (not (is_triggered i)) UntriggeredSuspension ∷ [])))

  abbrev pub leaving_in : ℕ → Field → List Case
  leaving_in i (signal k name) = []
  leaving_in i (state g k name) = state_leaving (number_at fs State i)
  leaving_in i (graph o) = []
  leaving_in i (transition s t k im) = transition_leaving i s k im
  leaving_in i (suspension s) = suspension_leaving i (number_at fs Suspension i) s
  leaving_in i (trigger p) = []
  leaving_in i (effects e) = []

  abbrev pub leaving_fault : ℕ → Option Fault
  leaving_fault i = first_case (leaving_in i (at fs i))

  -- Triggers.

  abbrev pub trigger_in : Field → Option Fault
  trigger_in (signal k name) = None
  trigger_in (state g k name) = None
  trigger_in (graph o) = None
  trigger_in (transition s t k im) = None
  trigger_in (suspension s) = None
  trigger_in (trigger p) = postfix_fault (signals fs) p 0
  trigger_in (effects e) = None

  abbrev pub trigger_fault : ℕ → Option Fault
  trigger_fault i = trigger_in (at fs i)

  -- Rings: a chain transition from whose target chain transitions lead back to its source.

  abbrev pub transition_ring : (ℕ → Bool) → (ℕ → ℕ → Bool) → ℕ → ℕ → ℕ → List Case
  transition_ring chain leads_to n s t = when (chain n && reached fs leads_to t s) OnRing ∷ []

  abbrev pub ring_in : (ℕ → Bool) → (ℕ → ℕ → Bool) → ℕ → Field → List Case
  ring_in chain leads_to i (signal k name) = []
  ring_in chain leads_to i (state g k name) = []
  ring_in chain leads_to i (graph o) = []
  ring_in chain leads_to i (transition s t k im) = transition_ring chain leads_to (number_at fs Transition i) s t
  ring_in chain leads_to i (suspension s) = []
  ring_in chain leads_to i (trigger p) = []
  ring_in chain leads_to i (effects e) = []

  abbrev pub ring_fault : ℕ → Option Fault
  ring_fault = let chain = is_chain fs in let l = chain_leads fs chain in λ i. first_case (ring_in chain l i (at fs i))

  -- how the field at i breaks the rule, if it does
  abbrev pub fault_by : Rule → ℕ → Option Fault
  fault_by references = reference_fault
  fault_by nesting = nesting_fault
  fault_by ends = ends_fault
  fault_by leaving = leaving_fault
  fault_by triggers = trigger_fault
  fault_by rings = ring_fault
