mod Appends
mod Bounds
pub mod Exact
pub mod Examples
pub mod Fits
mod Levels
pub mod Live
pub mod Lives
mod Nearest
pub mod Picks
pub mod Scans
pub mod Steps
mod Living
