pub mod Cut
pub mod Stages
pub mod Judged
