pub mod Puts
pub mod LineBytes
pub mod Copies
pub mod Entries
pub mod StateLine
