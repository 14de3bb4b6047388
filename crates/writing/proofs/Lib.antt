pub mod Puts
pub mod Spreads
pub mod CommandFacts
pub mod StateFacts
pub mod FileFacts
