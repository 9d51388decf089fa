pub mod Made
mod Words
mod Added
mod Rounds
