pub mod FlagValues
pub mod Room
pub mod Spreads
pub mod Reaching
pub mod Spreading
pub mod WholeWalks
