pub mod Falling
pub mod Statements
