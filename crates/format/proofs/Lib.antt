pub mod FileTrip
pub mod TablesTrip
