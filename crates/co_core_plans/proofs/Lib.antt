mod Acts
mod Classes
mod Named
mod Opening
mod Params
