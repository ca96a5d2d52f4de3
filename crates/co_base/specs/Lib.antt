pub mod Integers
pub mod Laws
pub mod Memory
pub mod Outside
