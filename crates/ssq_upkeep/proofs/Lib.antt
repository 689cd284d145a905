pub mod Among
mod Floors
pub mod Lasting
pub mod Leasts
