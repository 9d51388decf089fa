pub mod Columns
pub mod Copied
pub mod Entries
pub mod Most
pub mod Rows
pub mod Spans
pub mod Views
