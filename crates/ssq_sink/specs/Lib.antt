pub mod Fault
pub mod Latest
pub mod Passing
pub mod Sink
pub mod Sorted
pub mod Table
