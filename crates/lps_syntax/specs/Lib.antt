pub mod Moves
pub mod Runs
pub mod Counts
pub mod Judging
