pub mod PlanHits
pub mod Initializing
pub mod Keeping
pub mod NetSteps
pub mod Depths
pub mod Settings
pub mod OwnIndex
pub mod Finds
