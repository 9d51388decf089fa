-- Which contents a field may have. Assumes nothing.
use Rattle.std.specs.Prelude.{ℕ, Bool, true, not, ◌&&◌, ◌||◌, List, [], ◌∷◌, length, ◌==◌, nat_le, nat_lt, slice_index}
use Rattle.chart.specs.Fields.{Field, signal, state, graph, transition, suspension, trigger, effects}

abbrev pub every : {A : Type 0} → (A → Bool) → List A → Bool
every p [] = true
every p (x ∷ xs) = p x && every p xs

abbrev pub between : ℕ → ℕ → ℕ → Bool
between low high n = nat_le low n && nat_le n high

abbrev pub is_digit : ℕ → Bool
is_digit b = between 48 57 b

-- a letter, an underscore or a digit
abbrev pub is_name_byte : ℕ → Bool
is_name_byte b = between 65 90 b || between 97 122 b || b == 95 || is_digit b

-- 1 to 16 letters, digits and underscores, no digit first
abbrev pub is_name : List ℕ → Bool
is_name name = between 1 16 (length name) && every is_name_byte name && not (is_digit (slice_index name 0))

-- a number that two bytes hold
abbrev pub is_word : ℕ → Bool
is_word n = nat_lt n 65536

abbrev pub is_byte : ℕ → Bool
is_byte b = nat_lt b 256

abbrev pub well_formed : Field → Bool
well_formed (signal k name) = is_name name
well_formed (state g k name) = is_word g && is_name name
well_formed (graph o) = is_word o
well_formed (transition s t k i) = is_word s && is_word t
well_formed (suspension s) = is_word s
well_formed (trigger p) = between 1 32 (length p) && every is_byte p
well_formed (effects e) = between 1 16 (length e) && every is_byte e
