pub mod Net
pub mod Progress
pub mod Plans
