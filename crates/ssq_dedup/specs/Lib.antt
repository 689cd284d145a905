pub mod Firsts
pub mod Steps
