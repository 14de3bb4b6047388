pub mod Passing
pub mod FieldWays
pub mod Scanning
pub mod FillCommands
pub mod FillStates
pub mod Calls
pub mod Leaves
