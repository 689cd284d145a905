pub mod Again
pub mod Canonical
pub mod Expression
pub mod Places
pub mod Statement
