-- Names are text.
use Rattle.std.proofs.Common.{◌≡◌, ℕ, zero, suc, ◌<◌, true, not, ◌&&◌, List, [], ◌∷◌, length, get_or, IsUtf8, IsAscii, subst, arith}
use native.Mathlib.Decide.{dec_lt}
use Rattle.std.proofs.lemmas.Str.{IsUtf8-from_ascii, IsUtf8-nil}
use Rattle.std.proofs.lemmas.Bool.Decides.{nat_tests}
use Rattle.chart.specs.declared.kinds.Tag.{Tag}
use Rattle.chart.specs.declared.kinds.Tag.TheVariants.{Signal, State}
use Rattle.chart.specs.Fields.{Field, signal, state, graph, transition, suspension, trigger, effects, is}
use Rattle.chart.specs.Files.{is_row}
use Rattle.chart.specs.Limits.{count}
use Rattle.chart.specs.WellFormed.{every, between, is_name_byte, is_name, is_digit, is_word, well_formed}
use Rattle.chart.proofs.Bools.{both}
use Rattle.chart.proofs.Places.{formed_at}
use Rattle.validity.specs.Parts.{bytes_in, index_of, at}
use Rattle.validity.proofs.Numbers.{found}
use Rattle.tables.specs.Rows.{signal_name_of, state_name_of}
use Rattle.tables.proofs.Beyond.{beyond}

byte_ascii : (b : ℕ) → is_name_byte b ≡ true → b < 128
byte_ascii b h = grind (arith, nat_tests)

name_ascii : (name : List ℕ) → every is_name_byte name ≡ true → IsAscii name
name_ascii [] h zero = omega arith
name_ascii [] h (suc i) = omega arith
name_ascii (b ∷ bs) h zero = byte_ascii b (both (is_name_byte b) (every is_name_byte bs) h).0
name_ascii (b ∷ bs) h (suc i) = name_ascii bs (both (is_name_byte b) (every is_name_byte bs) h).1 i

name_text : (name : List ℕ) → is_name name ≡ true → IsUtf8 name
name_text name h =
    let r = both (between 1 16 (length name) && every is_name_byte name) (not (is_digit (get_or name 0 0))) h in
    IsUtf8-from_ascii name (name_ascii name (both (between 1 16 (length name)) (every is_name_byte name) r.0).1)

-- A field with a name: a signal or a state.

signal_text : (f : Field) → well_formed f ≡ true → is Signal f ≡ true → IsUtf8 (bytes_in f)
signal_text (signal k name) h t = name_text name h
signal_text (state g k name) h t = absurd (grind arith)
signal_text (graph o) h t = absurd (grind arith)
signal_text (transition s u k i) h t = absurd (grind arith)
signal_text (suspension s) h t = absurd (grind arith)
signal_text (trigger p) h t = absurd (grind arith)
signal_text (effects e) h t = absurd (grind arith)

state_text : (f : Field) → well_formed f ≡ true → is State f ≡ true → IsUtf8 (bytes_in f)
state_text (signal k name) h t = absurd (grind arith)
state_text (state g k name) h t = name_text name (both (is_word g) (is_name name) h).1
state_text (graph o) h t = absurd (grind arith)
state_text (transition s u k i) h t = absurd (grind arith)
state_text (suspension s) h t = absurd (grind arith)
state_text (trigger p) h t = absurd (grind arith)
state_text (effects e) h t = absurd (grind arith)

-- The same by number; beyond the fields with the tag there is no byte.

module _ (fs : List Field) (row : is_row fs ≡ true) where
  numbered : (t : Tag) → ((f : Field) → well_formed f ≡ true → is t f ≡ true → IsUtf8 (bytes_in f)) → (n : ℕ) → IsUtf8 (bytes_in (at fs (index_of (is t) fs n)))
  numbered t text n =
      elim (dec_lt n (count (is t) fs)) [
        | yes l ↦ let r = found (is t) fs n l in text (at fs (index_of (is t) fs n)) (formed_at fs row (index_of (is t) fs n) r.below) r.passes
        | no l ↦ subst (λ f. IsUtf8 (bytes_in f)) (beyond (is t) fs n (omega arith)) IsUtf8-nil
      ]

  pub signal_name_text : (n : ℕ) → IsUtf8 (signal_name_of fs n)
  signal_name_text = numbered Signal signal_text

  pub state_name_text : (s : ℕ) → IsUtf8 (state_name_of fs s)
  state_name_text = numbered State state_text
