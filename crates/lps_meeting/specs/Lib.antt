pub mod Steps
pub mod Stages
