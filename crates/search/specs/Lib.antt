pub mod Past
pub mod Marks
pub mod Underway
pub mod Walked
pub mod Tried
pub mod Settled
pub mod Ends
pub mod Answers
