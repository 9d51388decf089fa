-- The words for kinds. Assumes nothing.
use Rattle.std.specs.Prelude.{ℕ, List, codes}
use Rattle.chart.specs.declared.kinds.SignalKind.{SignalKind}
use Rattle.chart.specs.declared.kinds.SignalKind.TheVariants.{Input, Output, Internal}
use Rattle.chart.specs.declared.kinds.StateKind.{StateKind}
use Rattle.chart.specs.declared.kinds.StateKind.TheVariants.{Simple, Final, Macro}
use Rattle.chart.specs.declared.kinds.TransitionKind.{TransitionKind}
use Rattle.chart.specs.declared.kinds.TransitionKind.TheVariants.{Strong, Weak, Normal}

abbrev pub signal_word : SignalKind → List ℕ
signal_word Input = codes "input"
signal_word Output = codes "output"
signal_word Internal = codes "internal"

abbrev pub state_word : StateKind → List ℕ
state_word Simple = codes "simple"
state_word Final = codes "final"
state_word Macro = codes "macro"

abbrev pub transition_word : TransitionKind → List ℕ
transition_word Strong = codes "strong"
transition_word Weak = codes "weak"
transition_word Normal = codes "normal"
