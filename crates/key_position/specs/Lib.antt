pub mod Positions
pub mod First
