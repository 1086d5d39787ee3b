pub mod Exchanges
pub mod Movings
pub mod Pastes
pub mod Places
pub mod Same
