pub mod Ascii
pub mod Days
mod Parts
pub mod Printed
pub mod Readback
pub mod Signed
mod Spans
pub mod Steps
