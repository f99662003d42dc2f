pub mod Examples
pub mod Derivations
pub mod Conflicts
pub mod Kept
pub mod Offers
