pub mod Faults
pub mod Files
pub mod History
pub mod Logs
pub mod Outcomes
