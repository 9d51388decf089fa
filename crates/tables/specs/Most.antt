-- How many rows of each kind the fields of a file make at most. Assumes nothing.
use Rattle.std.specs.Prelude.{◌≡◌, ◌*◌, ◌≤◌, true, List, [], ◌∷◌, length}
use Rattle.std.proofs.Common.{sym, ap, ◌∙◌, arith, length-append}
use Rattle.chart.specs.declared.kinds.Tag.TheVariants.{Signal, State, Graph, Transition, Suspension}
use Rattle.chart.specs.Fields.{Field, signal, state, graph, transition, suspension, trigger, effects, encode, encode_all, is}
use Rattle.chart.specs.Files.{is_row}
use Rattle.chart.specs.Limits.{bit, count, counts_of, exceeded}
use Rattle.chart.proofs.Counting.{Within, within, counts_reverse}
use Rattle.chart.proofs.Rows.{good}

-- within the limits
pub row_within : (fs : List Field) → is_row fs ≡ true → Within (counts_of fs)
row_within fs h = within (counts_of fs) (ap exceeded (sym (counts_reverse fs)) ∙ (good fs h).limits)

five : (f : Field) → 5 * bit (is Suspension f) ≤ length (encode f)
five (signal k name) = omega arith
five (state g k name) = omega arith
five (graph o) = omega arith
five (transition s t k i) = omega arith
five (suspension s) = omega arith
five (trigger p) = omega arith
five (effects e) = omega arith

-- a suspension has five bytes
pub suspensions_bytes : (fs : List Field) → 5 * count (is Suspension) fs ≤ length (encode_all fs)
suspensions_bytes [] = omega arith
suspensions_bytes (f ∷ fs) = omega (arith, five f, suspensions_bytes fs, length-append (encode f) (encode_all fs))

-- of a file that is not too long
module _ (fs : List Field) (row : is_row fs ≡ true) (sized : length (encode_all fs) ≤ 16384) where
  pub few_signals : count (is Signal) fs ≤ 128
  few_signals = (row_within fs row).signals

  pub few_states : count (is State) fs ≤ 256
  few_states = (row_within fs row).states

  pub few_graphs : count (is Graph) fs ≤ 128
  few_graphs = (row_within fs row).graphs

  pub few_transitions : count (is Transition) fs ≤ 512
  few_transitions = (row_within fs row).transitions

  pub few_suspensions : count (is Suspension) fs ≤ 3276
  few_suspensions = omega (arith, suspensions_bytes fs)
