pub mod Numbers
pub mod OfLibrary
pub mod OnAtomics
pub mod OnHandles
pub mod Released
