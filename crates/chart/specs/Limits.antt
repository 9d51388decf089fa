-- How many signals, inputs, states, graphs and transitions a file may have. Assumes nothing.
use Rattle.std.specs.Prelude.{ℕ, ◌+◌, Bool, true, false, cond, not, List, [], ◌∷◌, is_some, Some, None, Ok, Err, Option, Result, nat_lt}
use Rattle.chart.specs.declared.kinds.Tag.TheVariants.{Signal, State, Graph, Transition}
use Rattle.chart.specs.declared.limits.Counts.{Counts}
use Rattle.chart.specs.declared.refusals.Limit.{Limit}
use Rattle.chart.specs.declared.refusals.Limit.TheVariants.{Signals, Inputs, States, Graphs, Transitions}
use Rattle.chart.specs.Fields.{Field, is, is_input}

abbrev pub bit : Bool → ℕ
bit true = 1
bit false = 0

-- how many of the fields pass the test
abbrev pub count : (Field → Bool) → List Field → ℕ
count p [] = 0
count p (f ∷ fs) = bit (p f) + count p fs

abbrev pub counts_of : List Field → Counts
counts_of fs = record {
  signals = count (is Signal) fs;
  inputs = count is_input fs;
  states = count (is State) fs;
  graphs = count (is Graph) fs;
  transitions = count (is Transition) fs;
}

-- a file has no more of them
abbrev pub most_of : Limit → ℕ
most_of Signals = 128
most_of Inputs = 64
most_of States = 256
most_of Graphs = 128
most_of Transitions = 512

abbrev pub beyond : Limit → ℕ → Bool
beyond l n = nat_lt (most_of l) n

-- the first limit that is passed
abbrev pub exceeded : Counts → Option Limit
exceeded c =
    cond (beyond Signals c.signals) (Some Signals) (cond (beyond Inputs c.inputs) (Some Inputs) (cond (beyond States c.states) (Some States)
    (cond (beyond Graphs c.graphs) (Some Graphs) (cond (beyond Transitions c.transitions) (Some Transitions) None))))

abbrev pub within_limits : List Field → Bool
within_limits fs = not (is_some (exceeded (counts_of fs)))

-- One field more.

abbrev pub no_counts : Counts
no_counts = counts_of []

abbrev pub added : Counts → Field → Counts
added c f = record {
  signals = bit (is Signal f) + c.signals;
  inputs = bit (is_input f) + c.inputs;
  states = bit (is State f) + c.states;
  graphs = bit (is Graph f) + c.graphs;
  transitions = bit (is Transition f) + c.transitions;
}

abbrev pub unless : Option Limit → Counts → Result Counts Limit
unless None c = Ok c
unless (Some l) c = Err l

abbrev pub raised : Counts → Field → Result Counts Limit
raised c f = unless (exceeded (added c f)) (added c f)
