pub mod Engine
pub mod Admission
pub mod Candidates
pub mod Round
pub mod Agenda
pub mod Making
