-- Where the fields of a row stand. Assumes nothing.
use Rattle.std.specs.Prelude.{◌≡◌, ℕ, ◌+◌, ◌<◌, cond, List, [], length, take, Some, None, Option, nat_lt, slice_index_or}
use Rattle.chart.specs.declared.kinds.Tag.TheVariants.{State, Graph, Transition, Suspension}
use Rattle.chart.specs.Fields.{Field, encode_all, is}
use Rattle.chart.specs.Limits.{bit, count}
use Rattle.validity.specs.Parts.{at}
use Rattle.tables.specs.declared.rows.Entry.{Entry}

-- of a field behind these
abbrev pub behind : List Field → Entry
behind fs = record {
  place = length (encode_all fs);
  states = count (is State) fs;
  graphs = count (is Graph) fs;
  transitions = count (is Transition) fs;
  suspensions = count (is Suspension) fs;
}

-- of the field at i
abbrev pub entry_at : List Field → ℕ → Entry
entry_at fs i = behind (take i fs)

abbrev pub no_entry : Entry
no_entry = behind []

-- the field counted too; the place is kept
abbrev pub counted : Entry → Field → Entry
counted e f = record {
  place = e.place;
  states = bit (is State f) + e.states;
  graphs = bit (is Graph f) + e.graphs;
  transitions = bit (is Transition f) + e.transitions;
  suspensions = bit (is Suspension f) + e.suspensions;
}

-- one entry for each field
pub record Entered (fs : List Field) (es : List Entry) : Type 0 where
  pub counted : length es ≡ length fs
  pub told : (i : ℕ) → i < length es → slice_index_or es i no_entry ≡ entry_at fs i

-- the field at i and its entry, if there is one

abbrev pub lookup : List Field → ℕ → Option Field
lookup fs i = cond (nat_lt i (length fs)) (Some (at fs i)) None

abbrev pub entry_if : List Field → ℕ → Option Entry
entry_if fs i = cond (nat_lt i (length fs)) (Some (entry_at fs i)) None
