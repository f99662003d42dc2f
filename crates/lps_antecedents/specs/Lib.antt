pub mod Lists
pub mod Waiting
pub mod Gathered
pub mod Slots
pub mod Buckets
pub mod Advancing
pub mod Laws
