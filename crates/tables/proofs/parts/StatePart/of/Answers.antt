use Rattle.std.proofs.Common.{sym, ap, ◌∙◌}
use Rattle.chart.specs.Stated.{stated}
use Rattle.tables.specs.Copied.{fields_in}
use Rattle.tables.proofs.Making.{state_made}
use Rattle.tables.proofs.parts.StatePart.of.Goals as goal

pub returns : goal.returns
returns c =
    let f = c.args.field.now in
    let s = c.in-State in
    state_made (fields_in f.file.now) f.index s.graph s.kind s.name.now c.span.result c.behind.result (ap stated (sym s.is) ∙ f.same) c.span.ensures c.behind.ensures
