mod Loops
mod Counting
mod Marking
mod Matching
