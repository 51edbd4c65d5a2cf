pub mod Changes
pub mod EntryBytes
pub mod Makes
pub mod Masks
pub mod Numbers
pub mod Proper
