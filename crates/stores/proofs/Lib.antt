pub mod Overwriting
pub mod PageBytes
pub mod JournalBytes
pub mod NewestSave
pub mod Slots
