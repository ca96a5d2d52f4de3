pub mod Sizes
pub mod Acts
pub mod Slots
