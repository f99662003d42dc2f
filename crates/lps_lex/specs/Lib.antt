pub mod Forms
pub mod Lexing
pub mod Piece
pub mod Reads
pub mod Spans
