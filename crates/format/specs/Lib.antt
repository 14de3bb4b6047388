pub mod Trips
pub mod Meaning
