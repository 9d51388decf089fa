-- What a field that borrows from the file states: the bytes in place of the references. Assumes nothing.
use Rattle.std.specs.Prelude.{Some, None, Ok, Err, Option, Result}
use Rattle.chart.specs.declared.fields.Field.{Field as Lent}
use Rattle.chart.specs.declared.fields.Field.TheVariants.{Signal, State, Graph, Transition, Suspension, Trigger, Effects}
use Rattle.chart.specs.Fields.{Field, signal, state, graph, transition, suspension, trigger, effects}

abbrev pub stated : Lent → Field
stated (Signal k name) = signal k name.now
stated (State g k name) = state g k name.now
stated (Graph o) = graph o
stated (Transition s t k i) = transition s t k i
stated (Suspension s) = suspension s
stated (Trigger p) = trigger p.now
stated (Effects e) = effects e.now

abbrev pub stated_by : {E : Type 0} → Result Lent E → Result Field E
stated_by (Ok f) = Ok (stated f)
stated_by (Err e) = Err e

abbrev pub stated_if : Option Lent → Option Field
stated_if None = None
stated_if (Some f) = Some (stated f)
