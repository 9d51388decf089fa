mod Bounds
mod Found
mod Keyed
