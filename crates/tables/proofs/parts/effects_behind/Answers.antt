use Rattle.tables.specs.Copied.{fields_in}
use Rattle.tables.proofs.Making.{behind_trigger, behind_itself}
use Rattle.tables.proofs.parts.effects_behind.Goals as goal

pub returns-then-is_some : goal.returns-then-is_some
returns-then-is_some c =
    let f = c.args.field.now in
    behind_trigger (fields_in f.file.now) f.index c.behind.result c.behind-then-is_some.result c.if-is_some.ensures c.behind.ensures c.behind-then-is_some.ensures

pub returns-else-is_some : goal.returns-else-is_some
returns-else-is_some c =
    let f = c.args.field.now in
    behind_itself (fields_in f.file.now) f.index c.behind.result c.behind-else-is_some.result c.if-is_some.ensures c.behind.ensures c.behind-else-is_some.ensures
