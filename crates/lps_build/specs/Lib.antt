pub mod Meaning
pub mod ReadTerms
pub mod ReadExpressions
pub mod ReadItems
pub mod Fits
pub mod Ends
pub mod ReadStatements
pub mod ReadLines
