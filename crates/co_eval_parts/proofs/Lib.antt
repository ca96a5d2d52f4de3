pub mod Listed
pub mod Lowest
pub mod Resumption
pub mod Rooms
pub mod Searched
pub mod Stood
