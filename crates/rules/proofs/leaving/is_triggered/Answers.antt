use Rattle.std.proofs.Common.{◌+◌, ap, ◌∙◌}
use Rattle.tables.specs.Views.{fields_of, fields_in}
use Rattle.tables.specs.Entries.{lookup}
use Rattle.rules.specs.Following.{is_trigger_if}
use Rattle.rules.proofs.Followed.{followed}
use Rattle.rules.proofs.leaving.is_triggered.Goals as goal

pub returns : goal.returns
returns c =
    let s = c.args.site.now in
    c.is_trigger.ensures
    ∙ ap is_trigger_if c.field.ensures
    ∙ ap (λ f. is_trigger_if (lookup (fields_in f) (s.index + 1))) c.file.ensures
    ∙ followed (fields_of s.tables.now) s.index
