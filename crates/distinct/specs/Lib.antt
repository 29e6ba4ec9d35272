pub mod Pairs
pub mod Places
pub mod Distinct
pub mod Seats
pub mod Rooms
pub mod Rising
pub mod Written
