pub mod Examples
pub mod Faults
pub mod Layout
pub mod Reading
pub mod Sorts
pub mod Tables
