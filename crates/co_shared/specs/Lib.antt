pub mod Closing
pub mod History
pub mod Laws
pub mod Passes
pub mod Rule
pub mod Sights
