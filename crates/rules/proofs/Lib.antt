pub mod FirstLaws
pub mod InOrder
pub mod Settled
pub mod Formatted
