pub mod Watches
pub mod Orders
