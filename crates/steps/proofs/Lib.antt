pub mod Choosing
pub mod Fronts
pub mod Growth
pub mod Leading
pub mod Marked
