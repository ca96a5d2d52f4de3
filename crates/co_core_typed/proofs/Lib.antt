mod Forms
mod Opening
mod Parts
