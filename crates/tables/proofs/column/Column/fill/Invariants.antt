use Rattle.std.proofs.Common.{◌≡◌, vec_items}
use Rattle.tables.specs.Copied.{fields_in}
use Rattle.tables.proofs.Filling.{Filled}
use Rattle.tables.proofs.column.Column.fill.Given as goal

-- the rows of the fields so far
abbrev pub invariant-loop-field : goal.invariant-loop-field
invariant-loop-field g l = (l.field-iterator.file.now ≡ l.file) × Filled g.P.Part.makes (fields_in l.file) (g.P.Part.row (fields_in l.file)) l.field-iterator.index (vec_items l.self.rows)
