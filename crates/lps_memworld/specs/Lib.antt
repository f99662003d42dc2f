pub mod Calls
pub mod Texts
pub mod Streams
pub mod Prints
