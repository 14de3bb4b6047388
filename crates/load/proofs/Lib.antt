pub mod Planning
pub mod LoadRows
pub mod Loaded
pub mod Lending
