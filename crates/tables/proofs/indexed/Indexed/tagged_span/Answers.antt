use Rattle.std.proofs.Common.{Some, sym, ap, ◌∙◌}
use Rattle.chart.specs.Fields.{tag_of}
use Rattle.tables.specs.Copied.{fields_in}
use Rattle.tables.proofs.Tagged.{tagged, other_tagged}
use Rattle.tables.proofs.indexed.Indexed.tagged_span.Goals as goal

pub returns-then-eq : goal.returns-then-eq
returns-then-eq c =
    let f = c.args.self.now in
    ap Some c.span.ensures ∙ tagged (fields_in f.file.now) c.args.tag f.index c.tag.result (c.tag.ensures ∙ ap tag_of f.same) (sym c.if-eq.ensures)

pub returns-else-eq : goal.returns-else-eq
returns-else-eq c =
    let f = c.args.self.now in
    other_tagged (fields_in f.file.now) c.args.tag f.index c.tag.result (c.tag.ensures ∙ ap tag_of f.same) (sym c.if-eq.ensures)
