pub mod Makes
pub mod Points
pub mod Scoped
pub mod Sets
