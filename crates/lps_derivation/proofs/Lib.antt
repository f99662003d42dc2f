pub mod Puts
pub mod Instances
pub mod Trees
pub mod Truth
pub mod Reach
