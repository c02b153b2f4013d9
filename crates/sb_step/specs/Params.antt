-- What a parameter list says, and how it is read.
pub mod Parameters
pub mod Readers
pub mod ParamsAnswers
