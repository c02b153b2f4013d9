-- Worked cases: what the definitions accept, and what they refuse.
mod Examples
mod FineCellExamples
