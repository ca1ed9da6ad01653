pub mod Values
pub mod Faults
pub mod Sealing
pub mod SealingLaws
pub mod Pairs
pub mod Body
pub mod Gives
pub mod Stands
