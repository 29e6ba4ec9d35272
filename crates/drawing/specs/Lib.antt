pub mod Graph
pub mod Parts
pub mod Rows
pub mod Room
