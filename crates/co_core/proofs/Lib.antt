mod Holding
mod Keeping
