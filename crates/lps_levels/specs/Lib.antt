pub mod Graphs
pub mod Names
pub mod Distances
pub mod Answers
pub mod Laws
