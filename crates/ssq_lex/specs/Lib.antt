pub mod Answer
pub mod Cut
pub mod Lexeme
pub mod Printing
pub mod Sayable
pub mod Spelling
