-- The reader's view of the order of fields: where it stands, in place of all the fields in front. Assumes nothing.
use Rattle.std.specs.Prelude.{Bool, true, false, List, [], ◌∷◌}
use Rattle.chart.specs.declared.kinds.Tag.{Tag}
use Rattle.chart.specs.declared.kinds.Tag as tag
use Rattle.chart.specs.declared.kinds.StateKind.TheVariants.{Simple, Final, Macro}
use Rattle.chart.specs.declared.order.Stage.{Stage}
use Rattle.chart.specs.declared.order.Stage.TheVariants.{Signals, SimpleState, Structure, Transition, TransitionTrigger, Suspension, Behaviour}
use Rattle.chart.specs.Fields.{Field, signal, state, graph, transition, suspension, trigger, effects}

-- nothing but signals so far
abbrev pub in_signals : Stage → Bool
in_signals Signals = true
in_signals SimpleState = false
in_signals Structure = false
in_signals Transition = false
in_signals TransitionTrigger = false
in_signals Suspension = false
in_signals Behaviour = false

-- no transition or suspension so far
abbrev pub before_behaviour : Stage → Bool
before_behaviour Signals = true
before_behaviour SimpleState = true
before_behaviour Structure = true
before_behaviour Transition = false
before_behaviour TransitionTrigger = false
before_behaviour Suspension = false
before_behaviour Behaviour = false

abbrev pub takes_trigger : Stage → Bool
takes_trigger Signals = false
takes_trigger SimpleState = false
takes_trigger Structure = false
takes_trigger Transition = true
takes_trigger TransitionTrigger = false
takes_trigger Suspension = true
takes_trigger Behaviour = false

abbrev pub takes_effects : Stage → Bool
takes_effects Signals = false
takes_effects SimpleState = true
takes_effects Structure = false
takes_effects Transition = true
takes_effects TransitionTrigger = true
takes_effects Suspension = false
takes_effects Behaviour = false

abbrev pub admits : Stage → Tag → Bool
admits s tag.TheVariants.Signal = in_signals s
admits s tag.TheVariants.State = before_behaviour s
admits s tag.TheVariants.Graph = before_behaviour s
admits s tag.TheVariants.Transition = true
admits s tag.TheVariants.Suspension = true
admits s tag.TheVariants.Trigger = takes_trigger s
admits s tag.TheVariants.Effects = takes_effects s

abbrev pub after_trigger : Stage → Stage
after_trigger Signals = Behaviour
after_trigger SimpleState = Behaviour
after_trigger Structure = Behaviour
after_trigger Transition = TransitionTrigger
after_trigger TransitionTrigger = Behaviour
after_trigger Suspension = Behaviour
after_trigger Behaviour = Behaviour

abbrev pub after_effects : Stage → Stage
after_effects Signals = Behaviour
after_effects SimpleState = Structure
after_effects Structure = Behaviour
after_effects Transition = Behaviour
after_effects TransitionTrigger = Behaviour
after_effects Suspension = Behaviour
after_effects Behaviour = Behaviour

abbrev pub after : Stage → Field → Stage
after s (signal k name) = Signals
after s (state g Simple name) = SimpleState
after s (state g Final name) = Structure
after s (state g Macro name) = Structure
after s (graph o) = Structure
after s (transition a b k i) = Transition
after s (suspension a) = Suspension
after s (trigger p) = after_trigger s
after s (effects e) = after_effects s

-- the stage behind these fields, given nearest first
abbrev pub stage_of : List Field → Stage
stage_of [] = Signals
stage_of (f ∷ before) = after (stage_of before) f
