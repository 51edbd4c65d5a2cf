pub mod Addresses
pub mod Layouts
pub mod ReadBack
pub mod Readings
pub mod Spelling
mod TableLaws
