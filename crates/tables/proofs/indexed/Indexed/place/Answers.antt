use Rattle.std.proofs.Common.{is_some, vec_items, sym, ap, ◌∙◌, arith}
use Rattle.tables.specs.Copied.{fields_in}
use Rattle.tables.proofs.Looking.{entry_place, entry_there}
use Rattle.tables.proofs.indexed.Indexed.place.Goals as goal

pub unwrap-requires : goal.unwrap-requires
unwrap-requires c =
    let f = c.args.self.now in
    ap is_some (c.entry.ensures ∙ entry_there (fields_in f.file.now) f.index f.inside)

pub returns : goal.returns
returns c =
    let f = c.args.self.now in
    let file = f.file.now in
    entry_place (vec_items file.bytes) (fields_in file) file.passed (omega (arith, file.most, file.bytes.ok.0)) f.index f.inside c.unwrap.result (sym c.unwrap.ensures ∙ c.entry.ensures)
