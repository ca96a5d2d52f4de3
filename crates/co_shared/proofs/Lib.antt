pub mod Logs
pub mod Keeps
