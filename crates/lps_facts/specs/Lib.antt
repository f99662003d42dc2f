pub mod Facts
pub mod Trail
pub mod Matching
pub mod Beginning
