pub mod Growing
pub mod Taking
pub mod Walking
