-- What makes graphs and macrostates end on entry. Assumes nothing.
use Rattle.std.specs.Prelude.{ℕ, Bool, not, ◌&&◌, ◌||◌, List, ◌==◌}
use Rattle.chart.specs.Fields.{Field}
use Rattle.validity.specs.Parts.{is_final}
use Rattle.validity.specs.Tables.{state_kind_of, owner_of, is_in, reached}

module _ (fs : List Field) where
  -- f is a final state of the graph g, and the initial state or reached from it
  abbrev pub ends_at : (ℕ → ℕ → Bool) → ℕ → ℕ → ℕ → Bool
  ends_at leads_to initial g f = is_in fs g f && is_final (state_kind_of fs f) && reached fs leads_to initial f

  -- the graph g does not keep the state s from ending: it is another state's, or may end
  abbrev pub lets_end : (ℕ → Bool) → ℕ → ℕ → Bool
  lets_end ends s g = not (owner_of fs g == s) || ends g
