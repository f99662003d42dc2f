pub mod Signs
pub mod Terms
pub mod Expressions
pub mod Items
pub mod Statements
pub mod Lines
pub mod Sizes
