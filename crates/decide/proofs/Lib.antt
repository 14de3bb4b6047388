pub mod PracticeChosen
pub mod StateVerdicts
pub mod Tallies
pub mod Passes
pub mod Finals
pub mod Decisions
