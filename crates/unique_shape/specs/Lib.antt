pub mod OwnTable
pub mod Replacing
pub mod Rules
