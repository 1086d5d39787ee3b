pub mod Faults
pub mod Named
pub mod Signals
pub mod Words
