pub mod Reporting
pub mod Built
pub mod Judged
pub mod Stopping
pub mod Running
pub mod Loading
pub mod Words
pub mod Answers
