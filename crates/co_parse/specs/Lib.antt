pub mod Declarations
pub mod NestsMembers
pub mod Parse
