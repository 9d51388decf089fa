-- The field that a tag and contents stand for, or the first part of the contents that is not allowed. Assumes nothing.
use Rattle.std.specs.Prelude.{◌≡◌, ℕ, suc, ◌+◌, ◌*◌, Bool, true, false, cond, List, length, drop, Some, None, Ok, Err, Option, Result, ◌==◌, slice_index}
use Rattle.chart.specs.declared.kinds.Tag.{Tag}
use Rattle.chart.specs.declared.kinds.Tag.TheVariants.{Signal, State, Graph, Transition, Suspension, Trigger, Effects}
use Rattle.chart.specs.declared.refusals.Part.{Part}
use Rattle.chart.specs.declared.refusals.Part.TheVariants.{Length, Kind, Flag, Name}
use Rattle.chart.specs.Kinds.{signal_kind_from, state_kind_from, transition_kind_from, flag_from}
use Rattle.chart.specs.Fields.{Field, signal, state, graph, transition, suspension, trigger, effects}
use Rattle.chart.specs.WellFormed.{between, is_name}

-- this part is wrong, but where the test holds
abbrev pub tested : Bool → Part → Result (Unit {0}) Part
tested ok p = cond ok (Ok tt) (Err p)

-- go on where the test holds, else this part is wrong
abbrev pub provided : Bool → Part → Result Field Part → Result Field Part
provided ok p onward = cond ok onward (Err p)

-- go on with the value, if there is one
abbrev pub given : {A : Type 0} → Option A → Part → (A → Result Field Part) → Result Field Part
given None p onward = Err p
given (Some a) p onward = onward a

-- the two-byte number at i
abbrev pub word_at : List ℕ → ℕ → ℕ
word_at c i = slice_index c i * 256 + slice_index c (suc i)

-- two bytes and no more
abbrev pub word_in : List ℕ → Option ℕ
word_in c = cond (length c == 2) (Some (word_at c 0)) None

-- a code of a kind and a name behind it
abbrev pub named : {K : Type 0} → (ℕ → Option K) → (K → Field) → ℕ → List ℕ → Result Field Part
named from make code name =
    provided (between 1 16 (length name)) Length
    (given (from code) Kind (λ k. provided (is_name name) Name (Ok (make k))))

abbrev pub named_signal : ℕ → List ℕ → Result Field Part
named_signal code name = named signal_kind_from (λ k. signal k name) code name

abbrev pub named_state : ℕ → ℕ → List ℕ → Result Field Part
named_state g code name = named state_kind_from (λ k. state g k name) code name

-- a kind as it is read and the name behind it
abbrev pub with_name : {K : Type 0} → Result K Part → List ℕ → Result K Part
with_name (Ok k) name = cond (is_name name) (Ok k) (Err Name)
with_name (Err p) name = Err p

-- What is told of a name behind a kind that is read so: the name's length is looked at first, then the kind, then the name's bytes.
pub record Named {K : Type 0} (reads : Result K Part → Type 0) (name : List ℕ) (r : Result K Part) : Type 0 where
  pub length_wrong : between 1 16 (length name) ≡ false → r ≡ Err Length
  pub length_right : between 1 16 (length name) ≡ true → (kind : Result K Part) × reads kind × (r ≡ with_name kind name)

abbrev pub decode : Tag → List ℕ → Result Field Part
decode Signal c = named_signal (slice_index c 0) (drop 1 c)
decode State c = named_state (word_at c 0) (slice_index c 2) (drop 3 c)
decode Graph c = given (word_in c) Length (λ n. Ok (graph n))
decode Transition c =
    provided (length c == 6) Length
    (given (transition_kind_from (slice_index c 4)) Kind (λ k. given (flag_from (slice_index c 5)) Flag (λ i. Ok (transition (word_at c 0) (word_at c 2) k i))))
decode Suspension c = given (word_in c) Length (λ n. Ok (suspension n))
decode Trigger c = provided (between 1 32 (length c)) Length (Ok (trigger c))
decode Effects c = provided (between 1 16 (length c)) Length (Ok (effects c))
