pub mod Arguments
pub mod Filled
pub mod Flags
pub mod Marks
pub mod Opened
