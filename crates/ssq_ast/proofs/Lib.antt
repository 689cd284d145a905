pub mod Boxes
pub mod Levels
pub mod Plain
pub mod Printed
pub mod Queries
pub mod Sayable
pub mod Worked
