pub mod Rows
pub mod Edges
