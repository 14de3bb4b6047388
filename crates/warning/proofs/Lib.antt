pub mod Replying
pub mod RankTimes
pub mod Admitted
