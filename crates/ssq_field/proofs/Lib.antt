pub mod BigEndian
pub mod Order
pub mod Digits
