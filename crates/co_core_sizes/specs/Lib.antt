pub mod Depths
pub mod Statements
pub mod Counted
