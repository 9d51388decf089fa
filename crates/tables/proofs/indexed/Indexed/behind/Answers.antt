use Rattle.std.proofs.Common.{◌+◌, ◌∙◌}
use Rattle.tables.specs.Copied.{fields_in}
use Rattle.tables.proofs.Tagged.{none_tagged}
use Rattle.tables.proofs.indexed.Indexed.behind.Goals as goal

pub returns-in_err-indexed : goal.returns-in_err-indexed
returns-in_err-indexed c =
    let f = c.args.self.now in
    c.from_residual.ensures ∙ none_tagged (fields_in f.file.now) c.args.tag (f.index + c.args.distance) c.in_err-indexed.ensures c.requires.no_graph
