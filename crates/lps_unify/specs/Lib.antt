pub mod Weights
pub mod Bindings
pub mod Slots
pub mod Unified
pub mod Canonical
