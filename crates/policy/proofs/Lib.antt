pub mod Digits
pub mod Places
pub mod Tested
pub mod Tuples
pub mod Judged
