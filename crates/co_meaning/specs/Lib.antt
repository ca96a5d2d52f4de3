pub mod Expressions
pub mod Statements
pub mod Library
pub mod Step
pub mod Runs
pub mod Balanced
pub mod Room
pub mod Laws
