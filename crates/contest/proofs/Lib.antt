pub mod LaidPlans
pub mod Memos
pub mod Trying
pub mod Answering
pub mod SameTurns
pub mod Laying
pub mod Replying
pub mod Admitted
