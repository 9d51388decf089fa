-- Signals, states and effects as a listing shows them. Assumes nothing.
use Rattle.std.specs.Prelude.{ℕ, zero, suc, List, [], ◌∷◌, ◌++◌, codes, decimal, if◌then◌else◌, nat_lt}
use Rattle.std.specs.List.{flat_map}
use Rattle.chart.specs.Fields.{Field}
use Rattle.validity.specs.Tables.{signals, states}
use Rattle.tables.specs.Rows.{signal_name_of, state_name_of}

-- The signal with this number: its name, or the number where no signal has it.
abbrev pub signal_shown : List Field → ℕ → List ℕ
signal_shown fs n = if nat_lt n (signals fs) then signal_name_of fs n else codes "?" ++ decimal n

-- The state with this number, and its name, where a state has it.
abbrev pub state_shown : List Field → ℕ → List ℕ
state_shown fs n = decimal n ++ (codes " " ++ (if nat_lt n (states fs) then state_name_of fs n else codes "?"))

-- a signal behind another one
abbrev pub next_shown : List Field → ℕ → List ℕ
next_shown fs n = codes ", " ++ signal_shown fs n

-- The signals that are emitted, or nothing if there are none.
abbrev pub effects_shown : List Field → List ℕ → List ℕ
effects_shown fs [] = []
effects_shown fs (n ∷ more) = (codes " / " ++ signal_shown fs n) ++ flat_map (next_shown fs) more

-- two blanks for each level
abbrev pub blanks : ℕ → List ℕ
blanks zero = []
blanks (suc n) = blanks n ++ codes "  "
