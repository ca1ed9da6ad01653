pub mod Fields
pub mod Faults
pub mod Form
pub mod Gives
pub mod ListLaws
pub mod FormLaws
