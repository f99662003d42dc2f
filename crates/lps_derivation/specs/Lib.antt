pub mod Expressions
pub mod Ground
pub mod Instances
pub mod Derivation
pub mod Levels
pub mod Laws
