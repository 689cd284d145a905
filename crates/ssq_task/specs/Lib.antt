pub mod Lists
pub mod Stepping
pub mod Reducing
pub mod Committing
pub mod Gathering
