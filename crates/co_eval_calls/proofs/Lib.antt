pub mod Constructed
pub mod OnTop
pub mod Parameters
pub mod Unset
pub mod Left
pub mod Params
pub mod Tops
