pub mod Bytes
pub mod Checks
pub mod Entries
pub mod Faults
pub mod Makers
pub mod Sets
