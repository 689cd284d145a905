pub mod Water
