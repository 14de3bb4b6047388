pub mod Flags
pub mod Queued
pub mod Spread
