mod Loops
mod Marking
mod Naming
mod Room
