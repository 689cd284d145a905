pub mod Events
pub mod Fronts
pub mod Growing
pub mod KeyLaws
