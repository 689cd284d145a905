pub mod Setting
pub mod Laws
pub mod Growing
pub mod States
pub mod Wide
