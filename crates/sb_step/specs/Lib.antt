-- In reading order.
pub mod Lexemes
pub mod Rules
pub mod Grammar
pub mod Faults
pub mod Numbers
pub mod Indexed
pub mod Described
pub mod IndexAnswers
pub mod KindTests
-- what the private functions of `index` promise
pub mod Index
-- where records stand, and which is the schema
pub mod Records
-- what a parameter list says, and how it is read
pub mod Params
-- what a cursor over parameters stands before
pub mod Cursors
