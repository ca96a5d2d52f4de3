pub mod Places
pub mod Within
pub mod Holds
pub mod Live
pub mod Turns
pub mod Theorem
mod Sample
