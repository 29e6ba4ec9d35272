pub mod StepsFrom
pub mod WalkBack
