pub mod Judged
pub mod Refusing
pub mod Refusals
pub mod Made
pub mod Texts
