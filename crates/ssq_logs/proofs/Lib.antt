pub mod Asking
pub mod Counting
pub mod Going
pub mod Opening
