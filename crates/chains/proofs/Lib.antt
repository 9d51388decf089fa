mod Found
mod Levels
