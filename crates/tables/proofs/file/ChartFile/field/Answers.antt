use Rattle.std.proofs.Common.{vec_items, ap, ◌∙◌}
use Rattle.chart.specs.Lookup.{field_at}
use Rattle.tables.specs.Copied.{fields_in}
use Rattle.tables.proofs.Looking.{looked_up}
use Rattle.tables.proofs.file.ChartFile.field.Goals as goal

pub returns : goal.returns
returns c =
    let f = c.args.self.now in
    let e = c.in_ok-entry.entry in
    c.field_at.ensures
    ∙ ap (field_at c.deref.result.now) c.from.ensures
    ∙ ap (λ b. field_at b e.place) c.deref.ensures.value
    ∙ looked_up (vec_items f.bytes) (fields_in f) f.row f.passed c.args.index e c.in_ok-entry.ensures
