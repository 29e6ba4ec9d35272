pub mod Tidy
pub mod Good
pub mod Used
