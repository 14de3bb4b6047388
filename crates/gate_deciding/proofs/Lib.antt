pub mod Delivering
pub mod Decided
pub mod LentDeciding
