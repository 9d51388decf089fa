-- The fields that the tables of a chart file hold. Assumes nothing.
use Rattle.std.specs.Prelude.{List}
use Rattle.chart.specs.Fields.{Field}
use Rattle.tables.specs.declared.tables.Tables.{Tables}
pub use Rattle.tables.specs.Copied.{fields_in}

abbrev pub fields_of : Tables → List Field
fields_of t = fields_in t.file
