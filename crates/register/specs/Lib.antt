pub mod Benches
pub mod Holding
pub mod Places
pub mod Ranges
pub mod Sessions
pub mod State
