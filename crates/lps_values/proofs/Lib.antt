pub mod Division
pub mod Rest
pub mod Fits
