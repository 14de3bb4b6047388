pub mod Delivering
pub mod Searched
pub mod LentSearch
