pub mod Marked
pub mod Limited
pub mod Unnamed
