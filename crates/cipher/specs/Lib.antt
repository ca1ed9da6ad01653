pub mod Speck
pub mod SpeckLaws
