pub mod Lowest
pub mod Rooms
pub mod Woken
