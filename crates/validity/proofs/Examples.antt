-- Worked examples: from the bytes of a file to the outcome.
use Rattle.std.proofs.Common.{◌≡◌, ℕ, Bool, true, false, List, [], ◌∷◌, take, Ok, Err, Result, refl}
use Rattle.chart.specs.declared.kinds.SignalKind.TheVariants.{Input, Output}
use Rattle.chart.specs.declared.kinds.StateKind.TheVariants.{Simple, Final, Macro}
use Rattle.chart.specs.declared.kinds.TransitionKind.TheVariants.{Strong, Normal}
use Rattle.chart.specs.declared.refusals.Refusal.{Refusal}
use Rattle.chart.specs.Fields.{Field, signal, state, graph, transition, trigger, effects, encode_all}
use Rattle.chart.specs.Reading.{read}
use Rattle.validity.specs.declared.faults.Fault.{Fault}
use Rattle.validity.specs.declared.faults.Fault.TheVariants.{EmptyGraph, OnRing}
use Rattle.validity.specs.declared.faults.Invalid.{Invalid}
use Rattle.validity.specs.Numbering.{number_of}
use Rattle.validity.specs.Outcome.{outcome}

-- what becomes of a file
data Verdict : Type 0 where
  unread : Refusal → Verdict
  loaded : Verdict
  refused : (number place : ℕ) → Fault → Verdict

abbrev judged : Result (Unit {0}) Invalid → Verdict
judged (Ok u) = loaded
judged (Err x) = refused (number_of x.fault) x.place x.fault

abbrev verdict : Result (List Field) Refusal → Verdict
verdict (Ok fs) = judged (outcome fs)
verdict (Err e) = unread e

abbrev load : List ℕ → Verdict
load b = verdict (read b)

-- a root with one state
abbrev small : List ℕ
small = 2 ∷ (0 ∷ (4 ∷ (255 ∷ (255 ∷ (2 ∷ (82 ∷ (3 ∷ (0 ∷ (2 ∷ (0 ∷ (0 ∷ (2 ∷ (0 ∷ (4 ∷ (0 ∷ (0 ∷ (0 ∷ (97 ∷ []))))))))))))))))))

small_loads : load small ≡ loaded
small_loads = refl

without_state : load (take 12 small) ≡ refused 22 7 EmptyGraph
without_state = refl

-- a and b joined both ways, at once or with delay
abbrev pair : Bool → List Field
pair back =
    state 65535 Macro (82 ∷ []) ∷ (graph 0 ∷ (state 0 Simple (97 ∷ []) ∷ (state 0 Simple (98 ∷ [])
    ∷ (transition 1 2 Strong true ∷ (transition 2 1 Strong back ∷ [])))))

ring : load (encode_all (pair true)) ≡ refused 26 26 OnRing
ring = refl

delayed : load (encode_all (pair false)) ≡ loaded
delayed = refl

-- a macrostate that goes at once to its final state, or with delay; its normal transition; and a way back to it
abbrev ending : Bool → List Field
ending inner =
    state 65535 Macro (82 ∷ []) ∷ (graph 0 ∷ (state 0 Macro (77 ∷ []) ∷ (state 0 Simple (98 ∷ []) ∷ (graph 1 ∷ (state 1 Simple (99 ∷ []) ∷ (state 1 Final (100 ∷ [])
    ∷ (transition 3 4 Strong inner ∷ (transition 1 2 Normal false ∷ (transition 2 1 Strong true ∷ [])))))))))

ring_through_normal : load (encode_all (ending true)) ≡ refused 26 54 OnRing
ring_through_normal = refl

ending_delayed : load (encode_all (ending false)) ≡ loaded
ending_delayed = refl

-- two waits side by side, for A and for B, ended together with O, and started again on R
abbrev abro : List Field
abro =
    signal Input (65 ∷ []) ∷ (signal Input (66 ∷ []) ∷ (signal Input (82 ∷ []) ∷ (signal Output (79 ∷ [])
    ∷ (state 65535 Macro (82 ∷ []) ∷ (graph 0 ∷ (state 0 Macro (65 ∷ (66 ∷ (79 ∷ []))) ∷ (graph 1 ∷ (state 1 Macro (87 ∷ []) ∷ (state 1 Simple (100 ∷ [])
    ∷ (graph 2 ∷ (state 2 Simple (119 ∷ (65 ∷ [])) ∷ (state 2 Final (100 ∷ (65 ∷ [])) ∷ (graph 2 ∷ (state 3 Simple (119 ∷ (66 ∷ [])) ∷ (state 3 Final (100 ∷ (66 ∷ []))
    ∷ (transition 4 5 Strong false ∷ (trigger (0 ∷ []) ∷ (transition 6 7 Strong false ∷ (trigger (1 ∷ []) ∷ (transition 2 3 Normal false ∷ (effects (3 ∷ [])
    ∷ (transition 1 1 Strong false ∷ (trigger (2 ∷ []) ∷ [])))))))))))))))))))))))

abro_loads : load (encode_all abro) ≡ loaded
abro_loads = refl
