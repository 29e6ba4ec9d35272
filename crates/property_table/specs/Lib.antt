pub mod Slotted
pub mod Lookup
pub mod Copies
pub mod OneKey
pub mod KeyLists
pub mod Readable
