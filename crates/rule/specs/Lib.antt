pub mod Rule
pub mod Meaning
pub mod Standing
pub mod Nodes
pub mod Ways
pub mod Testing
pub mod Tables
