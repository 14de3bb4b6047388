pub mod Nets
pub mod Found
