pub mod Grounded
pub mod Laws
