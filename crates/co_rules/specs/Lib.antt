pub mod Derives
pub mod Laws
pub mod Pattern
pub mod Rule
pub mod Names
pub mod Terminal
