pub mod Symbols
pub mod Parsers
pub mod Reading
pub mod Grammar
pub mod Depth
pub mod Declarations
