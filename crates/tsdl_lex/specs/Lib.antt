pub mod Bytes
pub mod Longest
pub mod Numbers
pub mod Strings
pub mod Marks
pub mod Lexemes
pub mod Tokens
