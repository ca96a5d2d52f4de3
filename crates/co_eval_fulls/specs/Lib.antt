pub mod FullActs
pub mod Fulls
pub mod Unmade
