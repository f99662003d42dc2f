pub mod Orders
pub mod Members
mod Walks
mod Along
mod Events
mod Both
