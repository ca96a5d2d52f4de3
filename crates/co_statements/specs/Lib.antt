pub mod Statements
pub mod NestsStatements
