pub mod Meaning
pub mod Axes
pub mod Glyphs
pub mod Places
pub mod Examples
pub mod ValuesLemmas
pub mod Packing
