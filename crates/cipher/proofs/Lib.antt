mod Rounds
mod Vectors
