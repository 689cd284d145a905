pub mod Taking
pub mod Stepping
