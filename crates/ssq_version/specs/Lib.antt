pub mod Map
pub mod State
pub mod Text
