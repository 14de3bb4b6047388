pub mod Placement
pub mod Replying
