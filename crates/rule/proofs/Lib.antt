pub mod Tested
pub mod Unfold
