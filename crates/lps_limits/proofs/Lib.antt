pub mod Sums
pub mod Once
pub mod Keeping
pub mod Unique
pub mod Growing
