pub mod Joining
pub mod Counting
