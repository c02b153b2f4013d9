-- The IDF text: numbers in order of first use, materials and constructions, objects, and the text, in
-- reading order.
pub mod FirstUse
pub mod Materials
pub mod Constructions
pub mod Fields
pub mod Objects
pub mod IdfText
pub mod Steps
