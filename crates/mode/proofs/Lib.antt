mod Loops
mod Bodies
mod Headers
mod Whole
