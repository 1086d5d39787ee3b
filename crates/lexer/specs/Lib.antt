pub mod Faults
pub mod Tokens
pub mod Places
pub mod Lexing
pub mod Lines
