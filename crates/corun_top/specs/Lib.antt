pub mod Answers
pub mod Status
pub mod Texts
pub mod Words
pub mod Written
