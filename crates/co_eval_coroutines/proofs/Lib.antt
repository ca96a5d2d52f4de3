pub mod Entered
pub mod Held
pub mod Loaded
pub mod Resumed
pub mod Suspension
pub mod Tops
pub mod Zero
