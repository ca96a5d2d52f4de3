pub mod Gives
pub mod Forms
pub mod Tables
pub mod Rules
