pub mod Links
pub mod StepLaws
pub mod Children
