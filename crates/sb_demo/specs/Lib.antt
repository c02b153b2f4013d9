pub mod Numbering
pub mod Blocks
pub mod BlockTexts
pub mod Relations
pub mod Demo
