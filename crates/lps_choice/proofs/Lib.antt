pub mod Lists
pub mod Extensions
pub mod Rounds
pub mod Ends
pub mod Carried
pub mod Firsts
pub mod Numbers
pub mod PlainPasses
