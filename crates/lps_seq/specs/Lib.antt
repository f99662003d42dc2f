pub mod Starts
pub mod Carries
pub mod Found
pub mod Leads
pub mod Calls
pub mod Resting
