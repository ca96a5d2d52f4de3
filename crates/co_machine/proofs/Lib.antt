pub mod Steady
pub mod Rest
pub mod Printing
pub mod Within
pub mod Sample
