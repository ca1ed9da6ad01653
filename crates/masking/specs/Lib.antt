pub mod Doubling
pub mod DoublingLaws
pub mod Tower
pub mod TowerLaws
pub mod Steps
pub mod StepsLaws
