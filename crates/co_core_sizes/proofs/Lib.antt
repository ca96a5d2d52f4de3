pub mod Classes
pub mod Counting
pub mod Deeper
pub mod Falling
pub mod Options
pub mod Beside
pub mod Same
pub mod Tabled
