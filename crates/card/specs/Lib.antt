pub mod Layout
pub mod Reading
pub mod Holding
pub mod Grammar
pub mod Cards
