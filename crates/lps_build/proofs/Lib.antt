pub mod Steps
pub mod Left
pub mod TermTrees
pub mod ExpressionTrees
pub mod Stops
pub mod ItemTrees
pub mod StatementTrees
pub mod LineTrees
