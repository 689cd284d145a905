pub mod Evaluation
pub mod Kinds
pub mod Plain
pub mod Laws
pub mod Boxes
pub mod Late
pub mod Fit
pub mod Windows
