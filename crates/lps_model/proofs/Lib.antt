pub mod Elements
pub mod Growth
pub mod Stated
pub mod Tables
