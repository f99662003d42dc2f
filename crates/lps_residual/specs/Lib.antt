pub mod Putting
pub mod Numbered
pub mod Limits
pub mod Moments
pub mod Proposing
pub mod Waking
