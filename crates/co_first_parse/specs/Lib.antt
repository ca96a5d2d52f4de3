pub mod Spelling
pub mod Lex
pub mod Grammar
pub mod Known
pub mod Parse
pub mod Place
