mod Exact
mod Layers
pub mod Making
