pub mod Place
pub mod Table
pub mod Scan
pub mod Lexer
pub mod Spells
pub mod Texts
