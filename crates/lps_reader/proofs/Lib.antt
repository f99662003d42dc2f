mod First
mod Numbering
pub mod Refusals
pub mod Unique
pub mod Texts
