mod Listing
pub mod Texts
mod Times
mod Spelled
pub mod Apart
