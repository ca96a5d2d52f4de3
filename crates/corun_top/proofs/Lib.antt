pub mod Answering
pub mod FirstBad
pub mod Writing
