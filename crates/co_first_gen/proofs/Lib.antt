pub mod Lists
pub mod Patch
