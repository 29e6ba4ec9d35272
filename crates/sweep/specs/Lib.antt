pub mod Marks
pub mod Walks
pub mod Passes
pub mod Users
pub mod Freed
