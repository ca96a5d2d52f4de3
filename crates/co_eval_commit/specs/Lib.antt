pub mod Looked
pub mod Temporaries
pub mod InPlace
pub mod Fields
pub mod Waking
pub mod Turned
