pub mod Follow
pub mod Numbers
pub mod Places
pub mod Sets
pub mod Tested
pub mod Unique
pub mod Classes
