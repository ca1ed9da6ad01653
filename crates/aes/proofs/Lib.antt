mod Example
mod Keys
mod Rounds
mod Rows
mod Words
