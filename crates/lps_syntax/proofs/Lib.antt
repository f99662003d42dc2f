pub mod Complete
pub mod Sound
pub mod Running
pub mod Symbols
pub mod Begun
pub mod Tallies
pub mod Verdicts
pub mod Unique
