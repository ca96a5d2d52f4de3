mod Forms
mod Loops
mod Opening
mod Statements
