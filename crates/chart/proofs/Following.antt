-- The reader's stage tells what may follow, in place of all the fields in front.
use Rattle.std.proofs.Common.{◌≡◌, true, ◌&&◌, ◌||◌, List, [], ◌∷◌, reverse, drop, sym, refl, ◌∙◌}
use mathlib.Core.List.{reverse_aux}
use borrow.Author.Tests.{clash}
use Rattle.chart.specs.declared.kinds.Tag.{Tag}
use Rattle.chart.specs.declared.kinds.Tag.TheVariants.{Signal, State, Graph, Transition, Suspension, Trigger, Effects}
use Rattle.chart.specs.declared.kinds.StateKind.TheVariants.{Simple, Final, Macro}
use Rattle.chart.specs.declared.order.Stage.{Stage}
use Rattle.chart.specs.declared.order.Stage as stage
use Rattle.chart.specs.Fields.{Field, signal, state, graph, transition, suspension, trigger, effects, tag_of, is, is_simple_state}
use Rattle.chart.specs.WellFormed.{every}
use Rattle.chart.specs.Order.{nearest, is_behaviour, is_structure, may_follow, ordered}
use Rattle.chart.specs.Stages.{in_signals, before_behaviour, takes_trigger, takes_effects, admits, stage_of}
use Rattle.chart.proofs.Bools.{both}

-- each of the fields, nearest first, may stand where it does
abbrev Behind : List Field → Type 0
Behind [] = Unit {0}
Behind (f ∷ before) = (may_follow before (tag_of f) ≡ true) × Behind before

behind_more : (fs bs : List Field) → Behind bs → ordered bs fs ≡ true → Behind (reverse_aux fs bs)
behind_more [] bs b o = b
behind_more (f ∷ fs) bs b o = let r = both (may_follow bs (tag_of f)) (ordered (f ∷ bs) fs) o in behind_more fs (f ∷ bs) (r.0, b) r.1

record Told (before : List Field) : Type 0 where
  signals : every (is Signal) before ≡ in_signals (stage_of before)
  structure : every is_structure before ≡ before_behaviour (stage_of before)
  trigger : nearest is_behaviour before ≡ takes_trigger (stage_of before)
  effects : (nearest is_simple_state before || nearest (is Transition) before || nearest (is Trigger) before && nearest (is Transition) (drop 1 before)) ≡ takes_effects (stage_of before)

-- a stage of signals comes before transitions
early : (s : Stage) → in_signals s ≡ true → before_behaviour s ≡ true
early stage.TheVariants.Signals h = refl
early stage.TheVariants.SimpleState h = absurd (clash h)
early stage.TheVariants.Structure h = absurd (clash h)
early stage.TheVariants.Transition h = absurd (clash h)
early stage.TheVariants.TransitionTrigger h = absurd (clash h)
early stage.TheVariants.Suspension h = absurd (clash h)
early stage.TheVariants.Behaviour h = absurd (clash h)

told : (before : List Field) → Behind before → Told before
told [] b = record { signals = refl; structure = refl; trigger = refl; effects = refl }
told (signal k n ∷ before) b =
    let t = told before b.1 in
    record { signals = b.0; structure = t.structure ∙ early (stage_of before) (sym t.signals ∙ b.0); trigger = refl; effects = refl }
told (state g Simple n ∷ before) b = record { signals = refl; structure = b.0; trigger = refl; effects = refl }
told (state g Final n ∷ before) b = record { signals = refl; structure = b.0; trigger = refl; effects = refl }
told (state g Macro n ∷ before) b = record { signals = refl; structure = b.0; trigger = refl; effects = refl }
told (graph o ∷ before) b = record { signals = refl; structure = b.0; trigger = refl; effects = refl }
told (transition s t k i ∷ before) b = record { signals = refl; structure = refl; trigger = refl; effects = refl }
told (suspension s ∷ before) b = record { signals = refl; structure = refl; trigger = refl; effects = refl }
told (trigger p ∷ []) b = absurd (clash b.0)
told (trigger p ∷ (signal k n ∷ before)) b = absurd (clash b.0)
told (trigger p ∷ (state g k n ∷ before)) b = absurd (clash b.0)
told (trigger p ∷ (graph o ∷ before)) b = absurd (clash b.0)
told (trigger p ∷ (transition s t k i ∷ before)) b = record { signals = refl; structure = refl; trigger = refl; effects = refl }
told (trigger p ∷ (suspension s ∷ before)) b = record { signals = refl; structure = refl; trigger = refl; effects = refl }
told (trigger p ∷ (trigger q ∷ before)) b = absurd (clash b.0)
told (trigger p ∷ (effects e ∷ before)) b = absurd (clash b.0)
told (effects e ∷ []) b = absurd (clash b.0)
told (effects e ∷ (signal k n ∷ before)) b = absurd (clash b.0)
told (effects e ∷ (state g Simple n ∷ before)) b = record { signals = refl; structure = b.1.0; trigger = refl; effects = refl }
told (effects e ∷ (state g Final n ∷ before)) b = absurd (clash b.0)
told (effects e ∷ (state g Macro n ∷ before)) b = absurd (clash b.0)
told (effects e ∷ (graph o ∷ before)) b = absurd (clash b.0)
told (effects e ∷ (transition s t k i ∷ before)) b = record { signals = refl; structure = refl; trigger = refl; effects = refl }
told (effects e ∷ (suspension s ∷ before)) b = absurd (clash b.0)
told (effects e ∷ (trigger p ∷ [])) b = absurd (clash b.0)
told (effects e ∷ (trigger p ∷ (signal k n ∷ before))) b = absurd (clash b.0)
told (effects e ∷ (trigger p ∷ (state g k n ∷ before))) b = absurd (clash b.0)
told (effects e ∷ (trigger p ∷ (graph o ∷ before))) b = absurd (clash b.0)
told (effects e ∷ (trigger p ∷ (transition s t k i ∷ before))) b = record { signals = refl; structure = refl; trigger = refl; effects = refl }
told (effects e ∷ (trigger p ∷ (suspension s ∷ before))) b = absurd (clash b.0)
told (effects e ∷ (trigger p ∷ (trigger q ∷ before))) b = absurd (clash b.0)
told (effects e ∷ (trigger p ∷ (effects d ∷ before))) b = absurd (clash b.0)
told (effects e ∷ (effects d ∷ before)) b = absurd (clash b.0)

by_stage : (before : List Field) → Behind before → (t : Tag) → admits (stage_of before) t ≡ may_follow before t
by_stage before b Signal = sym (told before b).signals
by_stage before b State = sym (told before b).structure
by_stage before b Graph = sym (told before b).structure
by_stage before b Transition = refl
by_stage before b Suspension = refl
by_stage before b Trigger = sym (told before b).trigger
by_stage before b Effects = sym (told before b).effects

-- what the stage admits behind an ordered row is what may follow it
pub stage_admits : (fs : List Field) → ordered [] fs ≡ true → (t : Tag) → admits (stage_of (reverse fs)) t ≡ may_follow (reverse fs) t
stage_admits fs o = by_stage (reverse fs) (behind_more fs [] tt o)
