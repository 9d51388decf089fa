-- What a chart stands for. Assumes nothing.
use Rattle.std.specs.Prelude.{ℕ, Bool, not, List, length, vec_items, ◌==◌}
use Rattle.chart.specs.Fields.{Field}
use Rattle.validity.specs.Chart.{Chart as Meaning, chart_of}
use Rattle.tables.specs.Views.{fields_of}
use Rattle.loading.specs.declared.charts.Chart.{Chart}

-- the file that it keeps; no byte if it is empty
abbrev pub copy_in : Chart → List ℕ
copy_in c = vec_items c.tables.file.bytes

abbrev pub is_loaded : Chart → Bool
is_loaded c = not (length (copy_in c) == 0)

abbrev pub fields_for : Chart → List Field
fields_for c = fields_of c.tables

abbrev pub meaning : Chart → Meaning
meaning c = chart_of (fields_for c)
