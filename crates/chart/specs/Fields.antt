-- The fields of a chart file and the bytes that each is written in. Assumes nothing.
use Rattle.std.specs.Prelude.{ℕ, ◌/◌, ◌%◌, Bool, false, List, [], ◌∷◌, ◌++◌, length, take, ◌==◌}
use Rattle.chart.specs.declared.kinds.Tag.{Tag}
use Rattle.chart.specs.declared.kinds.Tag.TheVariants.{Signal, State, Graph, Transition, Suspension, Trigger, Effects}
use Rattle.chart.specs.declared.kinds.SignalKind.{SignalKind}
use Rattle.chart.specs.declared.kinds.StateKind.{StateKind}
use Rattle.chart.specs.declared.kinds.TransitionKind.{TransitionKind}
use Rattle.chart.specs.Kinds.{tag_code, signal_kind_code, state_kind_code, transition_kind_code, flag_code}

pub data Field : Type 0 where
  -- kind, name
  signal : SignalKind → List ℕ → Field
  -- graph number, kind, name
  state : ℕ → StateKind → List ℕ → Field
  -- owner
  graph : ℕ → Field
  -- source, target, kind, immediate
  transition : ℕ → ℕ → TransitionKind → Bool → Field
  -- state
  suspension : ℕ → Field
  -- postfix
  trigger : List ℕ → Field
  -- signal numbers
  effects : List ℕ → Field

abbrev pub tag_of : Field → Tag
tag_of (signal k name) = Signal
tag_of (state g k name) = State
tag_of (graph o) = Graph
tag_of (transition s t k i) = Transition
tag_of (suspension s) = Suspension
tag_of (trigger p) = Trigger
tag_of (effects e) = Effects

-- the field has this tag
abbrev pub is : Tag → Field → Bool
is t f = tag_code (tag_of f) == tag_code t

abbrev pub is_input : Field → Bool
is_input (signal k name) = signal_kind_code k == 0
is_input (state g k name) = false
is_input (graph o) = false
is_input (transition s t k i) = false
is_input (suspension s) = false
is_input (trigger p) = false
is_input (effects e) = false

abbrev pub is_simple_state : Field → Bool
is_simple_state (signal k name) = false
is_simple_state (state g k name) = state_kind_code k == 0
is_simple_state (graph o) = false
is_simple_state (transition s t k i) = false
is_simple_state (suspension s) = false
is_simple_state (trigger p) = false
is_simple_state (effects e) = false

-- a two-byte number, high byte first, in front of these bytes
abbrev pub word : ℕ → List ℕ → List ℕ
word n rest = n / 256 ∷ (n % 256 ∷ rest)

abbrev pub contents : Field → List ℕ
contents (signal k name) = signal_kind_code k ∷ name
contents (state g k name) = word g (state_kind_code k ∷ name)
contents (graph o) = word o []
contents (transition s t k i) = word s (word t (transition_kind_code k ∷ (flag_code i ∷ [])))
contents (suspension s) = word s []
contents (trigger p) = p
contents (effects e) = e

-- tag, length, contents
abbrev pub encode : Field → List ℕ
encode f = tag_code (tag_of f) ∷ word (length (contents f)) (contents f)

abbrev pub encode_all : List Field → List ℕ
encode_all [] = []
encode_all (f ∷ fs) = encode f ++ encode_all fs

-- the byte number of the tag of the field at i
abbrev pub place_at : List Field → ℕ → ℕ
place_at fs i = length (encode_all (take i fs))
