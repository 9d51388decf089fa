-- The files that a chart may keep. Assumes nothing.
use Rattle.std.specs.Prelude.{ℕ, Bool, true, cond, List, length, is_ok, ◌==◌}
use Rattle.chart.specs.Reading.{row_of}
use Rattle.validity.specs.Outcome.{outcome}

-- no byte, or bytes whose fields break no rule
abbrev pub may_keep : List ℕ → Bool
may_keep b = cond (length b == 0) true (is_ok (outcome (row_of b)))
