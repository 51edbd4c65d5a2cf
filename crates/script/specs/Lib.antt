pub mod Collected
pub mod Commands
pub mod Numerals
pub mod Pieces
pub mod Reading
