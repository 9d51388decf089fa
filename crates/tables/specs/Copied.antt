-- The fields that a chart file holds. Assumes nothing.
use Rattle.std.specs.Prelude.{List, vec_items}
use Rattle.chart.specs.Fields.{Field}
use Rattle.chart.specs.Reading.{row_of}
use Rattle.tables.specs.declared.file.ChartFile.{ChartFile}

abbrev pub fields_in : ChartFile → List Field
fields_in f = row_of (vec_items f.bytes)
