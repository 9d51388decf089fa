-- Steps along marked edges. Assumes nothing.
use Rattle.std.specs.Prelude.{ℕ, Bool, false, ◌&&◌, List, length, ◌==◌, nat_lt, slice_index_or}
use Rattle.validity.specs.Closure.{steps_along}
use Rattle.closure.specs.declared.Edge.{Edge}

abbrev pub no_edge : Edge
no_edge = record { source = 0; target = 0; marked = false }

-- the edge leads from x to y
abbrev pub edge_step : Edge → ℕ → ℕ → Bool
edge_step e x y = e.source == x && e.target == y && e.marked

-- the edge is a step between numbers below n
abbrev pub is_step : ℕ → Edge → Bool
is_step n e = e.marked && nat_lt e.source n && nat_lt e.target n

-- one of the first m edges leads from x to y
abbrev pub steps_of : List Edge → ℕ → ℕ → ℕ → Bool
steps_of edges m = steps_along m (λ t. (slice_index_or edges t no_edge).source) (λ t. (slice_index_or edges t no_edge).target) (λ t. (slice_index_or edges t no_edge).marked)

-- one of the edges does
abbrev pub edge_steps : List Edge → ℕ → ℕ → Bool
edge_steps edges = steps_of edges (length edges)
