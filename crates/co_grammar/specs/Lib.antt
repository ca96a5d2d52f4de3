pub mod Laws
pub mod Loose
pub mod Machine
pub mod Scan
