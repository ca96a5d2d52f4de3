pub mod Congruence
pub mod Placed
pub mod Types
pub mod Expressions
pub mod Statements
pub mod Declarations
pub mod Trees
pub mod Printed
