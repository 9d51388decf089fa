-- How many parts a chart file has at most.
pub use Rattle.tables.specs.Most.{row_within}
