pub mod Collected
pub mod Drafted
pub mod Filling
pub mod Found
mod Kept
pub mod Laid
pub mod Leading
pub mod LastSaid
mod Listing
pub mod Once
pub mod Prefixes
pub mod Spelled
mod Sorting
mod Tables
pub mod Values
pub mod WhatIsNew
