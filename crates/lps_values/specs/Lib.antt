pub mod Division
pub mod Values
pub mod Truth
