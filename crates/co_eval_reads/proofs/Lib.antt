pub mod Rests
pub mod Parts
pub mod Mapped
pub mod Counting
pub mod Paths
pub mod Trailing
pub mod Judged
