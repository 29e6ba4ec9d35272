pub mod Keys
pub mod Tests
pub mod Sentences
pub mod Answers
pub mod Labels
pub mod Codes
