pub mod Outcomes
pub mod Orders
pub mod Choices
pub mod Taken
