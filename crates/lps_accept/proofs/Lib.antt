pub mod Early
pub mod Judged
