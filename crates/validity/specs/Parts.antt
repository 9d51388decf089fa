-- What the fields of a row hold, and how they are numbered. Assumes nothing.
use Rattle.std.specs.Prelude.{ℕ, zero, suc, Bool, true, false, cond, List, [], ◌∷◌, take, slice_index_or}
use Rattle.chart.specs.declared.kinds.Tag.{Tag}
use Rattle.chart.specs.declared.kinds.StateKind.{StateKind}
use Rattle.chart.specs.declared.kinds.StateKind.TheVariants.{Simple, Final, Macro}
use Rattle.chart.specs.declared.kinds.TransitionKind.{TransitionKind}
use Rattle.chart.specs.declared.kinds.TransitionKind.TheVariants.{Strong, Weak, Normal}
use Rattle.chart.specs.Fields.{Field, signal, state, graph, transition, suspension, trigger, effects, is}
use Rattle.chart.specs.Limits.{count}

abbrev pub is_final : StateKind → Bool
is_final Simple = false
is_final Final = true
is_final Macro = false

abbrev pub is_macro : StateKind → Bool
is_macro Simple = false
is_macro Final = false
is_macro Macro = true

abbrev pub is_strong : TransitionKind → Bool
is_strong Strong = true
is_strong Weak = false
is_strong Normal = false

abbrev pub is_weak : TransitionKind → Bool
is_weak Strong = false
is_weak Weak = true
is_weak Normal = false

abbrev pub is_normal : TransitionKind → Bool
is_normal Strong = false
is_normal Weak = false
is_normal Normal = true

-- Parts of a field; of one that has no such part, anything.

abbrev pub state_kind_in : Field → StateKind
state_kind_in (signal k name) = Simple
state_kind_in (state g k name) = k
state_kind_in (graph o) = Simple
state_kind_in (transition s t k i) = Simple
state_kind_in (suspension s) = Simple
state_kind_in (trigger p) = Simple
state_kind_in (effects e) = Simple

-- a state's graph number, a graph's owner, a suspension's state
abbrev pub number_in : Field → ℕ
number_in (signal k name) = 0
number_in (state g k name) = g
number_in (graph o) = o
number_in (transition s t k i) = 0
number_in (suspension s) = s
number_in (trigger p) = 0
number_in (effects e) = 0

pub record Edge : Type 0 where
  pub source : ℕ
  pub target : ℕ
  pub kind : TransitionKind
  pub immediate : Bool

abbrev pub no_edge : Edge
no_edge = record { source = 0; target = 0; kind = Strong; immediate = false }

abbrev pub edge_in : Field → Edge
edge_in (signal k name) = no_edge
edge_in (state g k name) = no_edge
edge_in (graph o) = no_edge
edge_in (transition s t k i) = record { source = s; target = t; kind = k; immediate = i }
edge_in (suspension s) = no_edge
edge_in (trigger p) = no_edge
edge_in (effects e) = no_edge

-- a name, a trigger's postfix, the signal numbers of effects
abbrev pub bytes_in : Field → List ℕ
bytes_in (signal k name) = name
bytes_in (state g k name) = name
bytes_in (graph o) = []
bytes_in (transition s t k i) = []
bytes_in (suspension s) = []
bytes_in (trigger p) = p
bytes_in (effects e) = e

-- the index of the field with the number n among those that pass the test
abbrev pub index_of : (Field → Bool) → List Field → ℕ → ℕ
index_of p [] n = 0
index_of p (f ∷ fs) zero = let r = suc (index_of p fs 0) in cond (p f) 0 r
index_of p (f ∷ fs) (suc n) = let r = index_of p fs n in let s = index_of p fs (suc n) in suc (cond (p f) r s)

abbrev pub at : List Field → ℕ → Field
at fs i = slice_index_or fs i (graph 0)

-- how many fields with this tag stand in front of i: the number of the field at i, if it has the tag
abbrev pub number_at : List Field → Tag → ℕ → ℕ
number_at fs t i = count (is t) (take i fs)
