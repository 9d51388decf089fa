-- The order of transitions from one state: strong, weak, normal. Assumes nothing.
use Rattle.std.specs.Prelude.{ℕ, Bool, true, ◌&&◌, ◌||◌, List, [], ◌∷◌, ◌==◌}
use Rattle.chart.specs.declared.kinds.TransitionKind.{TransitionKind}
use Rattle.chart.specs.declared.kinds.TransitionKind.TheVariants.{Strong, Weak, Normal}
use Rattle.chart.specs.Fields.{Field}
use Rattle.validity.specs.declared.faults.Fault.TheVariants.{StrongAfterWeaker, WeakAfterNormal, SecondNormal}
use Rattle.validity.specs.Parts.{is_strong, is_weak, is_normal}
use Rattle.validity.specs.Tables.{source_of, transition_kind_of}
use Rattle.validity.specs.Faults.{Case, when, stands_behind}

-- the second kind is the first or comes behind it
abbrev pub is_from : TransitionKind → TransitionKind → Bool
is_from Strong l = true
is_from Weak l = is_weak l || is_normal l
is_from Normal l = is_normal l

-- the transition u leaves s and is of the kind k or of one behind it
abbrev pub leaves_by : List Field → ℕ → TransitionKind → ℕ → Bool
leaves_by fs s k u = source_of fs u == s && is_from k (transition_kind_of fs u)

-- of the transition n from s
abbrev pub order_cases : List Field → ℕ → ℕ → TransitionKind → List Case
order_cases fs n s k =
    when (is_strong k && stands_behind fs n s (λ l. is_weak l || is_normal l)) StrongAfterWeaker
    ∷ (when (is_weak k && stands_behind fs n s is_normal) WeakAfterNormal
    ∷ (when (is_normal k && stands_behind fs n s is_normal) SecondNormal ∷ []))
