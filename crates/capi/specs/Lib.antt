pub mod Choices
pub mod Codes
pub mod Answers
