-- How a state can end: by a final state in each graph that it owns. Assumes nothing.
use Rattle.std.specs.Prelude.{ℕ, Bool, not, ◌&&◌, ◌||◌, List, ◌==◌}
use Rattle.chart.specs.Fields.{Field}
use Rattle.validity.specs.Ranges.{any_of}
use Rattle.validity.specs.Parts.{is_final}
use Rattle.validity.specs.Tables.{states, state_kind_of, owner_of, is_in}

-- f is a final state of the graph g
abbrev pub is_final_in : List Field → ℕ → ℕ → Bool
is_final_in fs g f = is_in fs g f && is_final (state_kind_of fs f)

-- some state is a final state of g
abbrev pub has_final : List Field → ℕ → Bool
has_final fs g = any_of (states fs) (is_final_in fs g)

-- the graph g lets s end: another state owns it, or it has a final state
abbrev pub lets_end : List Field → ℕ → ℕ → Bool
lets_end fs s g = not (owner_of fs g == s) || has_final fs g
