pub mod Bounding
pub mod Closing
pub mod Deciding
pub mod Filling
pub mod Gaps
pub mod Opening
pub mod Tightening
pub mod Windowing
