pub mod Laid
pub mod Memo
pub mod Answers
pub mod LaidPlans
