pub mod States
pub mod FullHolds
pub mod Grantable
pub mod Refused
