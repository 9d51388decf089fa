-- The rows of a chart's tables, by index of a field and by number. Assumes nothing.
use Rattle.std.specs.Prelude.{ℕ, suc, ◌+◌, false, cond, List, length, Some, None, Option}
use Rattle.chart.specs.declared.kinds.Tag as tag
use Rattle.chart.specs.declared.kinds.Tag.{Tag}
use Rattle.chart.specs.declared.kinds.SignalKind.{SignalKind}
use Rattle.chart.specs.declared.kinds.SignalKind.TheVariants.{Internal}
use Rattle.chart.specs.declared.kinds.StateKind.TheVariants.{Simple}
use Rattle.chart.specs.declared.kinds.TransitionKind.TheVariants.{Strong}
use Rattle.chart.specs.Fields.{Field, signal, state, graph, transition, suspension, trigger, effects, is, place_at}
use Rattle.validity.specs.Parts.{state_kind_in, number_in, edge_in, bytes_in, index_of, at}
use Rattle.validity.specs.Tables.{state_index, graph_index, transition_index, suspension_index}
use Rattle.tables.specs.declared.rows.Span.{Span}
use Rattle.tables.specs.declared.rows.Signal.{Signal}
use Rattle.tables.specs.declared.rows.State.{State}
use Rattle.tables.specs.declared.rows.Graph.{Graph}
use Rattle.tables.specs.declared.rows.Transition.{Transition}
use Rattle.tables.specs.declared.rows.Suspension.{Suspension}

-- of a field that is no signal, anything
abbrev pub signal_kind_in : Field → SignalKind
signal_kind_in (signal k name) = k
signal_kind_in (state g k name) = Internal
signal_kind_in (graph o) = Internal
signal_kind_in (transition s t k i) = Internal
signal_kind_in (suspension s) = Internal
signal_kind_in (trigger p) = Internal
signal_kind_in (effects e) = Internal

module _ (fs : List Field) where
  -- where the name, the postfix or the effects of the field at i stand: so many bytes behind its tag
  abbrev pub span_at : ℕ → ℕ → Span
  span_at offset i = record { start = place_at fs i + offset; length = length (bytes_in (at fs i)) }

  -- the same, if it is a trigger or effects with this tag
  abbrev pub tagged_span_at : Tag → ℕ → Option Span
  tagged_span_at t i = cond (is t (at fs i)) (Some (span_at 3 i)) None

  abbrev pub trigger_span_at : ℕ → Option Span
  trigger_span_at = tagged_span_at tag.TheVariants.Trigger

  abbrev pub effects_span_at : ℕ → Option Span
  effects_span_at = tagged_span_at tag.TheVariants.Effects

  -- The row of the field at i, if it is of that kind.

  abbrev pub signal_at : ℕ → Signal
  signal_at i = record { kind = signal_kind_in (at fs i); name = span_at 4 i }

  abbrev pub state_at : ℕ → State
  state_at i = record { kind = state_kind_in (at fs i); graph = number_in (at fs i); name = span_at 6 i; effects = effects_span_at (suc i) }

  abbrev pub graph_at : ℕ → Graph
  graph_at i = record { owner = number_in (at fs i) }

  abbrev pub transition_at : ℕ → Transition
  transition_at i = record {
    source = (edge_in (at fs i)).source;
    target = (edge_in (at fs i)).target;
    kind = (edge_in (at fs i)).kind;
    immediate = (edge_in (at fs i)).immediate;
    trigger = trigger_span_at (suc i);
    effects = cond (is tag.TheVariants.Trigger (at fs (suc i))) (effects_span_at (suc (suc i))) (effects_span_at (suc i));
  }

  abbrev pub suspension_at : ℕ → Suspension
  suspension_at i = record { state = number_in (at fs i); trigger = trigger_span_at (suc i) }

  -- The row with a number.

  abbrev pub signal_row : ℕ → Signal
  signal_row n = signal_at (index_of (is tag.TheVariants.Signal) fs n)

  abbrev pub state_row : ℕ → State
  state_row s = state_at (state_index fs s)

  abbrev pub graph_row : ℕ → Graph
  graph_row g = graph_at (graph_index fs g)

  abbrev pub transition_row : ℕ → Transition
  transition_row t = transition_at (transition_index fs t)

  abbrev pub suspension_row : ℕ → Suspension
  suspension_row u = suspension_at (suspension_index fs u)

  -- Names; of a number that nothing has, none.

  abbrev pub signal_name_of : ℕ → List ℕ
  signal_name_of n = bytes_in (at fs (index_of (is tag.TheVariants.Signal) fs n))

  abbrev pub state_name_of : ℕ → List ℕ
  state_name_of s = bytes_in (at fs (state_index fs s))

-- Rows that stand for nothing.

abbrev pub no_span : Span
no_span = record { start = 0; length = 0 }

abbrev pub no_signal : Signal
no_signal = record { kind = Internal; name = no_span }

abbrev pub no_state : State
no_state = record { kind = Simple; graph = 0; name = no_span; effects = None }

abbrev pub no_graph : Graph
no_graph = record { owner = 0 }

abbrev pub no_transition : Transition
no_transition = record { source = 0; target = 0; kind = Strong; immediate = false; trigger = None; effects = None }

abbrev pub no_suspension : Suspension
no_suspension = record { state = 0; trigger = None }
