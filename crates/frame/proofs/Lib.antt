mod Reading
pub mod Opening
mod Framing
