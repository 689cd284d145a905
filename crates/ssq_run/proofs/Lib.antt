pub mod Telling
pub mod Passing
pub mod Going
pub mod Looking
pub mod StatusText
pub mod Showing
pub mod Tabling
pub mod TableRows
pub mod Generating
pub mod Making
mod Runnable
mod KeyLemmas
mod ShownKeys
mod ShownTable
