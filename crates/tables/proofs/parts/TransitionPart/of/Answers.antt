use Rattle.std.proofs.Common.{sym, ap, ◌∙◌}
use Rattle.chart.specs.Stated.{stated}
use Rattle.tables.specs.Copied.{fields_in}
use Rattle.tables.proofs.Making.{transition_made}
use Rattle.tables.proofs.parts.TransitionPart.of.Goals as goal

pub returns : goal.returns
returns c =
    let f = c.args.field.now in
    let t = c.in-Transition in
    transition_made (fields_in f.file.now) f.index t.source t.target t.kind t.immediate c.behind.result c.effects_behind.result (ap stated (sym t.is) ∙ f.same) c.behind.ensures c.effects_behind.ensures
