-- The codes by which a chart file writes tags, kinds and flags. Assumes nothing.
use Rattle.std.specs.Prelude.{ℕ, Bool, true, false, cond, Some, None, Option, ◌==◌}
use Rattle.chart.specs.declared.kinds.Tag.{Tag}
use Rattle.chart.specs.declared.kinds.Tag.TheVariants.{Signal, State, Graph, Transition, Suspension, Trigger, Effects}
use Rattle.chart.specs.declared.kinds.SignalKind.{SignalKind}
use Rattle.chart.specs.declared.kinds.SignalKind.TheVariants.{Input, Output, Internal}
use Rattle.chart.specs.declared.kinds.StateKind.{StateKind}
use Rattle.chart.specs.declared.kinds.StateKind.TheVariants.{Simple, Final, Macro}
use Rattle.chart.specs.declared.kinds.TransitionKind.{TransitionKind}
use Rattle.chart.specs.declared.kinds.TransitionKind.TheVariants.{Strong, Weak, Normal}
use Rattle.chart.specs.declared.kinds.UnknownTag.{UnknownTag}

abbrev pub tag_code : Tag → ℕ
tag_code Signal = 1
tag_code State = 2
tag_code Graph = 3
tag_code Transition = 4
tag_code Suspension = 5
tag_code Trigger = 6
tag_code Effects = 7

abbrev pub signal_kind_code : SignalKind → ℕ
signal_kind_code Input = 0
signal_kind_code Output = 1
signal_kind_code Internal = 2

abbrev pub state_kind_code : StateKind → ℕ
state_kind_code Simple = 0
state_kind_code Final = 1
state_kind_code Macro = 2

abbrev pub transition_kind_code : TransitionKind → ℕ
transition_kind_code Strong = 0
transition_kind_code Weak = 1
transition_kind_code Normal = 2

abbrev pub flag_code : Bool → ℕ
flag_code false = 0
flag_code true = 1

-- And back: what a code stands for, if anything.

-- the one of three with the codes 0, 1 and 2
abbrev pub one_of_three : {A : Type 0} → A → A → A → ℕ → Option A
one_of_three a b c n = cond (n == 0) (Some a) (cond (n == 1) (Some b) (cond (n == 2) (Some c) None))

abbrev pub tag_from : ℕ → Option Tag
tag_from n =
    cond (n == 1) (Some Signal) (cond (n == 2) (Some State) (cond (n == 3) (Some Graph)
    (cond (n == 4) (Some Transition) (cond (n == 5) (Some Suspension) (cond (n == 6) (Some Trigger)
    (cond (n == 7) (Some Effects) None))))))

-- the error for a code that no tag has
abbrev pub unknown_tag : ℕ → UnknownTag
unknown_tag n = record { 0 = n }

abbrev pub signal_kind_from : ℕ → Option SignalKind
signal_kind_from = one_of_three Input Output Internal

abbrev pub state_kind_from : ℕ → Option StateKind
state_kind_from = one_of_three Simple Final Macro

abbrev pub transition_kind_from : ℕ → Option TransitionKind
transition_kind_from = one_of_three Strong Weak Normal

abbrev pub flag_from : ℕ → Option Bool
flag_from n = cond (n == 0) (Some false) (cond (n == 1) (Some true) None)
