pub mod Columns
pub mod Suspended
