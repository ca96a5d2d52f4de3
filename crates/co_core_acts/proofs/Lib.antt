mod Forms
mod Lists
mod Loops
mod Orders
mod Parts
mod Statements
