-- The states, graphs, transitions and suspensions of a row of fields, by number. Assumes nothing.
use Rattle.std.specs.Prelude.{ℕ, zero, suc, Bool, false, cond, not, ◌&&◌, ◌||◌, List, [], Some, None, Option, ◌==◌, nat_eq}
use Rattle.chart.specs.declared.kinds.Tag.TheVariants.{Signal, State, Graph, Transition, Suspension, Trigger, Effects}
use Rattle.chart.specs.declared.kinds.StateKind.{StateKind}
use Rattle.chart.specs.declared.kinds.TransitionKind.{TransitionKind}
use Rattle.chart.specs.Fields.{Field, is, is_input}
use Rattle.chart.specs.Limits.{count}
use Rattle.validity.specs.Ranges.{any_of, all_of, least_of, kept}
use Rattle.validity.specs.Closure.{steps_along, leads}
use Rattle.validity.specs.Parts.{is_final, is_macro, is_normal, state_kind_in, number_in, edge_in, bytes_in, index_of, at}

module _ (fs : List Field) where
  -- the trigger, the effects that stand at i
  abbrev pub trigger_at : ℕ → Option (List ℕ)
  trigger_at i = cond (is Trigger (at fs i)) (Some (bytes_in (at fs i))) None

  abbrev pub effects_at : ℕ → List ℕ
  effects_at i = cond (is Effects (at fs i)) (bytes_in (at fs i)) []

  -- Signals.

  abbrev pub signals : ℕ
  signals = count (is Signal) fs

  abbrev pub is_input_signal : ℕ → Bool
  is_input_signal n = is_input (at fs (index_of (is Signal) fs n))

  -- States.

  abbrev pub states : ℕ
  states = count (is State) fs

  abbrev pub state_index : ℕ → ℕ
  state_index s = index_of (is State) fs s

  abbrev pub state_kind_of : ℕ → StateKind
  state_kind_of s = state_kind_in (at fs (state_index s))

  abbrev pub graph_of : ℕ → ℕ
  graph_of s = number_in (at fs (state_index s))

  abbrev pub sustained_by : ℕ → List ℕ
  sustained_by s = effects_at (suc (state_index s))

  -- Graphs. The root is in none.

  abbrev pub graphs : ℕ
  graphs = count (is Graph) fs

  abbrev pub graph_index : ℕ → ℕ
  graph_index g = index_of (is Graph) fs g

  abbrev pub owner_of : ℕ → ℕ
  owner_of g = number_in (at fs (graph_index g))

  abbrev pub is_in : ℕ → ℕ → Bool
  is_in g s = not (s == 0) && graph_of s == g

  abbrev pub initial_of : ℕ → ℕ
  initial_of g = least_of states (is_in g)

  -- The root's depth is 1. A state stands behind those around it, so that n levels are enough if n is above its number.
  abbrev pub depth_within : ℕ → ℕ → ℕ
  depth_within zero s = 1
  depth_within (suc n) s = let r = suc (depth_within n (owner_of (graph_of s))) in cond (s == 0) 1 r

  abbrev pub depth_of : ℕ → ℕ
  depth_of s = depth_within states s

  -- Transitions.

  abbrev pub transitions : ℕ
  transitions = count (is Transition) fs

  abbrev pub transition_index : ℕ → ℕ
  transition_index t = index_of (is Transition) fs t

  abbrev pub source_of : ℕ → ℕ
  source_of t = (edge_in (at fs (transition_index t))).source

  abbrev pub target_of : ℕ → ℕ
  target_of t = (edge_in (at fs (transition_index t))).target

  abbrev pub transition_kind_of : ℕ → TransitionKind
  transition_kind_of t = (edge_in (at fs (transition_index t))).kind

  abbrev pub is_immediate : ℕ → Bool
  is_immediate t = (edge_in (at fs (transition_index t))).immediate

  abbrev pub trigger_of : ℕ → Option (List ℕ)
  trigger_of t = trigger_at (suc (transition_index t))

  -- directly behind the transition, or behind its trigger
  abbrev pub emitted_by : ℕ → List ℕ
  emitted_by t = cond (is Trigger (at fs (suc (transition_index t)))) (effects_at (suc (suc (transition_index t)))) (effects_at (suc (transition_index t)))

  -- Suspensions.

  abbrev pub suspensions : ℕ
  suspensions = count (is Suspension) fs

  abbrev pub suspension_index : ℕ → ℕ
  suspension_index u = index_of (is Suspension) fs u

  abbrev pub suspended_by : ℕ → ℕ
  suspended_by u = number_in (at fs (suspension_index u))

  -- of a state: the trigger of its first suspension
  abbrev pub suspension_of : ℕ → Option (List ℕ)
  suspension_of s =
      let found = trigger_at (suc (suspension_index (least_of suspensions (λ u. nat_eq (suspended_by u) s)))) in
      cond (any_of suspensions (λ u. nat_eq (suspended_by u) s)) found None

  -- Chain transitions.

  module _ (chain : ℕ → Bool) where
    -- a chain transition leads from x to y
    abbrev pub chain_step : ℕ → ℕ → Bool
    chain_step = steps_along transitions source_of target_of chain

    -- chain transitions lead from x to y, one at least
    abbrev pub chain_leads : ℕ → ℕ → Bool
    chain_leads = leads states chain_step

  module _ (leads_to : ℕ → ℕ → Bool) where
    -- the same, or reached from it
    abbrev pub reached : ℕ → ℕ → Bool
    reached x y = x == y || leads_to x y

    -- in the graph g a final state is the initial one or is reached from it
    abbrev pub graph_may_end : ℕ → Bool
    graph_may_end g = any_of states (λ f. is_in g f && is_final (state_kind_of f) && reached (initial_of g) f)

    -- a macrostate may end on entry: each of its graphs may
    abbrev pub may_end : ℕ → Bool
    may_end s = is_macro (state_kind_of s) && all_of graphs (λ g. not (owner_of g == s) || graph_may_end g)

    -- an immediate transition, or a normal one whose source may end on entry
    abbrev pub is_chain_by : ℕ → Bool
    is_chain_by t = let m = may_end (source_of t) in is_immediate t || cond (is_normal (transition_kind_of t)) m false

  -- The chain transitions, where macrostates that may end on entry are looked for n levels inward.
  abbrev pub chain_within : ℕ → ℕ → Bool
  chain_within zero = is_immediate
  chain_within (suc n) = let l = chain_leads (chain_within n) in kept transitions (is_chain_by l)

  -- Macrostates stand at depth 1 to 8.
  abbrev pub is_chain : ℕ → Bool
  is_chain = chain_within 8
