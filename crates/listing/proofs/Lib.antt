pub mod Answered
pub mod StateLines
pub mod Named
pub mod Decided
pub mod Found
pub mod PlanLines
pub mod Files
