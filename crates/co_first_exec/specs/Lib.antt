pub mod Opening
pub mod Machine
pub mod Laws
