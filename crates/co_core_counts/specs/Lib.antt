pub mod Left
pub mod Spent
