pub mod Values
pub mod Rows
pub mod Check
pub mod Effect
pub mod Ready
pub mod Turn
pub mod Laws
pub mod Core
