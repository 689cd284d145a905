pub mod Setting
pub mod Laws
pub mod Opening
pub mod Rows
pub mod Partitions
