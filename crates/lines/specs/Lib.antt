pub mod Commands
pub mod Reading
pub mod Lines
pub mod Decimal
pub mod Writing
pub mod Pages
