pub mod Seen
pub mod Agents
pub mod Changed
