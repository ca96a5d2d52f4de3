pub mod Expressions
pub mod Laws
pub mod Runs
pub mod Spells
pub mod Takes
