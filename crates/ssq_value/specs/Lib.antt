pub mod Kind
pub mod Layout
pub mod Order
pub mod OrderLaws
pub mod Key
pub mod Grown
