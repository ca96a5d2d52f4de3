pub mod Forms
pub mod Handled
pub mod Inits
pub mod Located
pub mod Parts
pub mod Plans
pub mod Wholes
pub mod Zero
