-- A chart: numbered signals, states, graphs and transitions. State 0 is the root. Assumes nothing.
use Rattle.std.specs.Prelude.{ℕ, ◌<◌, Bool, not, ◌&&◌, ◌||◌, List, Option, ◌==◌, nat_lt}
use Rattle.chart.specs.declared.kinds.StateKind.{StateKind}
use Rattle.chart.specs.declared.kinds.TransitionKind.{TransitionKind}
use Rattle.chart.specs.Fields.{Field}
use Rattle.validity.specs.Ranges.{count_of}
use Rattle.validity.specs.Closure.{steps_along, leads}
use Rattle.validity.specs.Tables.{signals, is_input_signal, states, state_kind_of, graph_of, depth_of, suspension_of, sustained_by, graphs, owner_of, initial_of, transitions, source_of, target_of, transition_kind_of, is_immediate, is_chain, trigger_of, emitted_by}

pub record Chart : Type 0 where
  pub signals : ℕ
  pub states : ℕ
  pub graphs : ℕ
  pub transitions : ℕ
  -- of a signal
  pub input : ℕ → Bool
  -- of a state: its kind, the graph that it is in, its depth (the root's is 1), the trigger of its suspension, its effects
  pub state_kind : ℕ → StateKind
  pub graph : ℕ → ℕ
  pub depth : ℕ → ℕ
  pub suspension : ℕ → Option (List ℕ)
  pub sustains : ℕ → List ℕ
  -- of a graph: the macrostate that owns it, its initial state
  pub owner : ℕ → ℕ
  pub initial : ℕ → ℕ
  -- of a transition
  pub source : ℕ → ℕ
  pub target : ℕ → ℕ
  pub transition_kind : ℕ → TransitionKind
  pub immediate : ℕ → Bool
  pub chain : ℕ → Bool
  pub trigger : ℕ → Option (List ℕ)
  pub emits : ℕ → List ℕ

abbrev pub chart_of : List Field → Chart
chart_of fs = record {
  signals = signals fs;
  states = states fs;
  graphs = graphs fs;
  transitions = transitions fs;
  input = is_input_signal fs;
  state_kind = state_kind_of fs;
  graph = graph_of fs;
  depth = depth_of fs;
  suspension = suspension_of fs;
  sustains = sustained_by fs;
  owner = owner_of fs;
  initial = initial_of fs;
  source = source_of fs;
  target = target_of fs;
  transition_kind = transition_kind_of fs;
  immediate = is_immediate fs;
  chain = is_chain fs;
  trigger = trigger_of fs;
  emits = emitted_by fs;
}

module _ (c : Chart) where
  -- the macrostate around s
  abbrev pub around : ℕ → ℕ
  around s = c.owner (c.graph s)

  -- s is a state of the chart, and not the root
  abbrev pub Inner : ℕ → Type 0
  Inner s = (0 < s) × (s < c.states)

  -- n is a signal that may be emitted
  abbrev pub may_emit : ℕ → Bool
  may_emit n = nat_lt n c.signals && not (c.input n)

  -- a chain transition leads from x to y
  abbrev pub chained : ℕ → ℕ → Bool
  chained = steps_along c.transitions c.source c.target c.chain

  -- chain transitions lead from x to y, one at least
  abbrev pub reaches : ℕ → ℕ → Bool
  reaches = leads c.states chained

  -- s is the initial state of its graph, or is reached from it by chain transitions
  abbrev pub entered : ℕ → Bool
  entered s = c.initial (c.graph s) == s || reaches (c.initial (c.graph s)) s

  -- the number of states from which chain transitions reach s
  abbrev pub rank : ℕ → ℕ
  rank s = count_of c.states (λ x. reaches x s)
