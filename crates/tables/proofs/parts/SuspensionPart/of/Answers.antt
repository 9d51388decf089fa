use Rattle.std.proofs.Common.{sym, ap, ◌∙◌}
use Rattle.chart.specs.Stated.{stated}
use Rattle.tables.specs.Copied.{fields_in}
use Rattle.tables.proofs.Making.{suspension_made}
use Rattle.tables.proofs.parts.SuspensionPart.of.Goals as goal

pub returns : goal.returns
returns c =
    let f = c.args.field.now in
    let s = c.in-Suspension in
    suspension_made (fields_in f.file.now) f.index s.state c.behind.result (ap stated (sym s.is) ∙ f.same) c.behind.ensures
