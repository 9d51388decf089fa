pub mod Those
mod Rows
