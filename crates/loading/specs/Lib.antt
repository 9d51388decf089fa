pub mod Derives
pub mod Kept
pub mod Laws
pub mod Loading
pub mod Meaning
pub mod Numbers
