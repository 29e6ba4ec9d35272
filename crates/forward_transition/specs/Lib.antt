pub mod Transitions
