pub mod Leading
pub mod OneText
