pub mod Histories
pub mod Sources
pub mod Sound
pub mod Laws
pub mod Growing
pub mod Readings
pub mod Worked
