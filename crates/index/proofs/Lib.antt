pub mod Owners
pub mod Counting
pub mod Sums
pub mod Placing
pub mod Groups
