pub mod Groups
pub mod Keeps
pub mod Linked
