-- The first defect of a file.
pub mod OneFirst
pub mod HeadIsFirst
pub mod VerdictsTellDefects
pub mod AllIsRead
