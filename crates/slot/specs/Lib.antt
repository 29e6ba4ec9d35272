pub mod Attributes
pub mod Slots
pub mod Bytes
