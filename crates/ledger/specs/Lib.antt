pub mod Ledgers
pub mod Growth
pub mod Agreement
pub mod Examples
