pub mod Sessions
pub mod Standing
pub mod Policy
pub mod Pairing
pub mod Testing
pub mod Pairs
