pub mod Sets
pub mod Present
pub mod Trails
pub mod Sequences
pub mod Matches
pub mod Selections
pub mod Beginnings
