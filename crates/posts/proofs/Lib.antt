pub mod Finding
pub mod Layers
pub mod Members
pub mod Midway
pub mod Parcels
