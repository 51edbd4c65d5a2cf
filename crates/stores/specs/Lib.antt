pub mod Brittle
pub mod Journal
pub mod Meaning
pub mod Page
pub mod Parts
pub mod Saves
pub mod EntryParts
