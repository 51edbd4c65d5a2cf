pub mod Testing
pub mod Worked
