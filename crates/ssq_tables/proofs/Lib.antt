mod Agreeing
pub mod Apart
pub mod Epochs
mod Once
pub mod Reading
mod Replacing
pub mod Showing
pub mod Standing
pub mod Storing
pub mod Totals
pub mod Typed
