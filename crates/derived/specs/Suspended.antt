-- Where the triggers of suspensions stand. Assumes nothing.
use Rattle.std.specs.Prelude.{ℕ, suc, cond, List, None, Option, nat_eq}
use Rattle.chart.specs.Fields.{Field}
use Rattle.validity.specs.Ranges.{any_of, least_of}
use Rattle.validity.specs.Tables.{suspensions, suspension_index, suspended_by}
use Rattle.tables.specs.declared.rows.Span.{Span}
use Rattle.tables.specs.Rows.{trigger_span_at}

-- of a state: where the trigger of its first suspension stands
abbrev pub suspension_span : List Field → ℕ → Option Span
suspension_span fs s =
    let found = trigger_span_at fs (suc (suspension_index fs (least_of (suspensions fs) (λ u. nat_eq (suspended_by fs u) s)))) in
    cond (any_of (suspensions fs) (λ u. nat_eq (suspended_by fs u) s)) found None
