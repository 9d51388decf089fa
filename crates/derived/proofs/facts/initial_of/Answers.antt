use Rattle.std.proofs.Common.{arith}
use Rattle.validity.specs.Tables.{states, is_in}
use Rattle.tables.specs.Views.{fields_of}
use Rattle.tables.proofs.Within.{row_within}
use Rattle.derived.proofs.Bounds.{least_most}
use Rattle.derived.proofs.facts.initial_of.Goals as goal

pub overflow_cast-result : goal.overflow_cast-result
overflow_cast-result c =
    let t = c.args.tables.now in
    let fs = fields_of t in
    omega (arith, c.initial_state.ensures, least_most (states fs) (is_in fs c.args.graph), (row_within fs t.file.row).states)
