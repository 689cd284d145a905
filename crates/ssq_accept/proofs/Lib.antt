pub mod Refused
pub mod OneAnswer
