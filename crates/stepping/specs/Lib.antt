pub mod Answering
pub mod Input
pub mod Taking
