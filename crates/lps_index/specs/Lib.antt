pub mod Matching
pub mod Spoken
pub mod Table
