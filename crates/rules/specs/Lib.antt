pub mod Ending
pub mod Following
pub mod Judged
pub mod Naming
pub mod Order
pub mod Ringed
