pub mod Types
pub mod Classes
pub mod Names
pub mod Choosing
pub mod Special
pub mod Laws
