-- What may follow what: signals; then states and graphs; then transitions and suspensions. Assumes nothing.
use Rattle.std.specs.Prelude.{Bool, true, false, not, ◌&&◌, ◌||◌, List, [], ◌∷◌, drop}
use Rattle.chart.specs.declared.kinds.Tag.{Tag}
use Rattle.chart.specs.declared.kinds.Tag.TheVariants.{Signal, State, Graph, Transition, Suspension, Trigger, Effects}
use Rattle.chart.specs.Fields.{Field, is, is_simple_state, tag_of}
use Rattle.chart.specs.WellFormed.{every}

-- The fields in front of a place are given nearest first.

-- the field directly in front passes the test
abbrev pub nearest : (Field → Bool) → List Field → Bool
nearest p [] = false
nearest p (f ∷ before) = p f

abbrev pub is_behaviour : Field → Bool
is_behaviour f = is Transition f || is Suspension f

abbrev pub is_structure : Field → Bool
is_structure f = not (is_behaviour f)

-- A field with this tag may stand behind these. A trigger directly follows its transition or suspension, effects directly follow a simple state, a transition or a transition's trigger.
abbrev pub may_follow : List Field → Tag → Bool
may_follow before Signal = every (is Signal) before
may_follow before State = every is_structure before
may_follow before Graph = every is_structure before
may_follow before Transition = true
may_follow before Suspension = true
may_follow before Trigger = nearest is_behaviour before
may_follow before Effects = nearest is_simple_state before || nearest (is Transition) before || nearest (is Trigger) before && nearest (is Transition) (drop 1 before)

-- each of the fields may stand where it does, behind those in front
abbrev pub ordered : List Field → List Field → Bool
ordered before [] = true
ordered before (f ∷ fs) = may_follow before (tag_of f) && ordered (f ∷ before) fs
