pub mod CommandNames
pub mod OptionNames
pub mod OrderedWords
pub mod Matching
pub mod Parts
pub mod Shapes
pub mod Words
