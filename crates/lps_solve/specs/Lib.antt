pub mod Placed
pub mod Met
pub mod Found
pub mod Table
pub mod Answers
pub mod Moded
pub mod Heights
