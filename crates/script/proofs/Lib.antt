pub mod Cutting
pub mod Gathering
pub mod Naming
pub mod Spelling
