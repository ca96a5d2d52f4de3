pub mod Chains
pub mod Storage
pub mod Words
