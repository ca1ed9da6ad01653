mod Opens
mod Runs
mod Places
