pub mod Meaning
pub mod Spans
pub mod Ready
pub mod Lasts
pub mod ListTables
pub mod Listed
