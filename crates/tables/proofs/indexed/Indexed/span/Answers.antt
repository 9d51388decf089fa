use Rattle.std.proofs.Common.{◌≤◌, length, vec_items, ap, arith}
use Rattle.validity.specs.Parts.{bytes_in, at}
use Rattle.tables.specs.Copied.{fields_in}
use Rattle.tables.proofs.Looking.{short}
use Rattle.tables.proofs.indexed.Indexed.span.Goals as goal

pub overflow_cast-result : goal.overflow_cast-result
overflow_cast-result c =
    let f = c.args.self.now in
    let file = f.file.now in
    let few : length (bytes_in (at (fields_in file) f.index)) ≤ 16384 = short (vec_items file.bytes) (fields_in file) file.passed (omega (arith, file.most, file.bytes.ok.0)) f.index f.inside in
    omega (arith, few, ap length c.bytes.ensures, ap (λ f. length (bytes_in f)) f.same)
