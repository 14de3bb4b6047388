pub mod Parts
pub mod Grouping
