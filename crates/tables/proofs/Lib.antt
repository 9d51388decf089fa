pub mod Beyond
pub mod Entering
pub mod Looking
pub mod Spanning
pub mod Within
mod Making
mod Numbered
mod Tagged
mod Filling
