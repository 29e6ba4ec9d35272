pub mod Transition
pub mod Replays
