pub mod Alike
mod Folds
mod Spelled
pub mod Written
