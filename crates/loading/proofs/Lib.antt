mod Deciding
mod Deriving
pub mod Keeping
mod Outcomes
