pub mod Store
pub mod Frames
pub mod Undefined
pub mod Turn
pub mod Access
