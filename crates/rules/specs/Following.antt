-- What stands behind a field. Assumes nothing.
use Rattle.std.specs.Prelude.{Bool, false, Some, None, Option}
use Rattle.chart.specs.declared.kinds.Tag.TheVariants.{Trigger}
use Rattle.chart.specs.Fields.{Field, is}

-- there is a field, and it is a trigger
abbrev pub is_trigger_if : Option Field → Bool
is_trigger_if None = false
is_trigger_if (Some f) = is Trigger f
