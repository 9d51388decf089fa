pub mod Ends
pub mod Marks
