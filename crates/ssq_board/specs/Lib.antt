pub mod Causes
pub mod Core
pub mod Shelf
pub mod Shown
pub mod Follows
pub mod Told
pub mod Rounds
pub mod Laws
