mod Reached
mod Sampling
mod Rows
