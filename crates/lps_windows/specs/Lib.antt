pub mod Bounds
pub mod Conditions
pub mod Ends
pub mod Matrices
pub mod Windows
