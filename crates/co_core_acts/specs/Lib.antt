pub mod Visits
pub mod Fulls
