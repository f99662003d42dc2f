pub mod Results
pub mod OnePlace
pub mod Keyed
pub mod Gaining
pub mod Growing
pub mod Finding
