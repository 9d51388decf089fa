-- Sets of numbers below 256, in four words each, and rows of them. Assumes nothing.
use Rattle.std.specs.Prelude.{◌≡◌, ℕ, ◌/◌, ◌%◌, ◌<◌, Bool, true, ◌&&◌, List, ◌==◌, [], nat_lt, slice_index, slice_index_or}
use Rattle.std.specs.Int.{bit_at}
use Rattle.closure.specs.declared.row.Row.{Row}
use Rattle.closure.specs.declared.Reach.{Reach}

abbrev pub in_row : Row → ℕ → Bool
in_row r y = bit_at (slice_index r.words (y / 64)) (y % 64) == 1

abbrev pub empty : Row
empty = record { words = [] }

-- the row x holds y
abbrev pub holds : List Row → ℕ → ℕ → Bool
holds rows x y = in_row (slice_index_or rows x empty) y

-- the step joins numbers below n
abbrev pub among : ℕ → (ℕ → ℕ → Bool) → ℕ → ℕ → Bool
among n step x y = nat_lt x n && nat_lt y n && step x y

-- of the numbers below 256, a step joins only those below n
abbrev pub OnlyBelow : ℕ → (ℕ → ℕ → Bool) → Type 0
OnlyBelow n step = (x y : ℕ) → x < 256 → y < 256 → step x y ≡ true → (x < n) × (y < n)

-- x leads to y, as the rows tell; numbers of 256 and more lead nowhere
abbrev pub told : Reach → ℕ → ℕ → Bool
told r x y = nat_lt x 256 && nat_lt y 256 && holds r.rows x y
