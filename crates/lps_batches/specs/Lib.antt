pub mod LookAhead
pub mod LinesAhead
pub mod Lines
pub mod Outcomes
pub mod Readings
pub mod Stream
