pub mod Closed
pub mod Ranges
pub mod Shifts
pub mod Taking
